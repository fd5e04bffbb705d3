-- The levels of a list: reading item by item gives what the productions give.
use Rattle.std.proofs.Common.{◌≡◌, ℕ, zero, suc, ◌<◌, ◌≤◌, List, [], ◌∷◌, ◌++◌, length, map, codes, Option, Some, None, refl, sym, ap, ◌∙◌, arith}
use Rattle.std.proofs.Common.{length-append}
use Rattle.std.specs.Prelude.{option_and_then}
use Rattle.std.proofs.lemmas.Option.{same_Some}
use Rattle.fts_model.specs.declared.schema.Field.{Field}
use Rattle.fts_query.specs.declared.clauses.Occur.TheVariants.{Should}
use Rattle.fts_query.specs.declared.error.ParseError.{ParseError}
use Rattle.fts_query.specs.declared.error.ParseError.TheVariants.{Memory, Syntax}
use Rattle.fts_query.specs.declared.reader.Level.{Level}
use Rattle.fts_query.specs.Meanings.{Meaning, Factor, Clause, occur_in_conjunction, node, conjunction, disjunction, disjunction_clause, list_meaning}
use Rattle.fts_query.specs.Gathering.{Gathered, gather, gather_all, gathered_node}
use Rattle.fts_query.specs.Sequences.{SequenceItem, lone, several, clause_of, node_of, joined, separator_of, sequence_by, factor_part, item_of, sequence_of, following}
use Rattle.fts_query.specs.Sequences.{then_gathered}
use Rattle.fts_query.specs.Reading.{Parser, Read, onto, follow, seq_by, over, factor_of, conjunction_of, disjunction_of, list_of, meaning_of, unit_of}
use Rattle.fts_query.specs.Steps.{Misses}
use Rattle.fts_query.proofs.GatheringLemmas.{nothing_gathered, gathered_node-all}
use Rattle.fts_query.proofs.ReadingToGrammar.{and_then_some, onto_some, over_some, read_is_factor, read_is_unit, read_is_space, read_is_operator}
use Rattle.fts_query.proofs.ReadingLemmas.{plain_and, plain_or}
use Rattle.fts_query.specs.declared.reader.Level.TheVariants as levels

-- a view of a view is a view
over_over : {A B C : Type 0} (g : B → C) (h : A → B) (o : Option (A × List ℕ)) → over g (over h o) ≡ over (λ x. g (h x)) o
over_over g h None = refl
over_over g h (Some x) = refl

-- views that agree give the same
over_same : {A B : Type 0} (g h : A → B) (o : Option (A × List ℕ)) → ((x : A) → g x ≡ h x) → over g o ≡ over h o
over_same g h None e = refl
over_same {B = B} g h (Some x) e = ap (λ (y : B). Some (y, x.1)) (e x.0)

-- a view of a sequence's first item and of the others
onto-over : {A B : Type 0} (h : A → B) (x : A) (o : Option (List A × List ℕ)) → onto (h x) (over (map h) o) ≡ over (map h) (onto x o)
onto-over h x None = refl
onto-over h x (Some y) = refl

-- a sequence of items under a view
seq_by-over : {A B : Type 0} (sep : List ℕ → Option (List ℕ)) (item : Parser A) (h : A → B) (seen : Parser B) → ((s : List ℕ) → seen s ≡ over h (item s)) →
    (n : ℕ) (s : List ℕ) → seq_by n sep seen s ≡ over (map h) (seq_by n sep item s)
unfolding seq_by
seq_by-over {A} {B} sep item h seen e zero s = refl
seq_by-over {A} {B} sep item h seen e (suc n) s =
    ap (option_and_then (λ (x : Read B). onto x.0 (follow (sep x.1) x.1 (λ t. seq_by n sep seen t)))) (e s)
    ∙ elim (item s) as (λ (o : Option (A × List ℕ)). option_and_then (λ (x : Read B). onto x.0 (follow (sep x.1) x.1 (λ t. seq_by n sep seen t))) (over h o)
    ≡ over (map h) (option_and_then (λ (x : Read A). onto x.0 (follow (sep x.1) x.1 (λ t. seq_by n sep item t))) o)) [
      | None ↦ refl
      | Some x ↦ elim (sep x.1) as (λ (q : Option (List ℕ)). onto (h x.0) (follow q x.1 (λ t. seq_by n sep seen t)) ≡ over (map h)
          (onto x.0 (follow q x.1 (λ t. seq_by n sep item t)))) [
            | None ↦ refl
            | Some t ↦ ap (onto (h x.0)) (seq_by-over sep item h seen e n t) ∙ onto-over h x.0 (seq_by n sep item t)
          ]
    ]

-- a conjunction as an item of the level above
abbrev conjunction_part : List Factor → SequenceItem
conjunction_part fs = joined levels.Conjunction (map lone fs)

-- a disjunction as an item of the level above
abbrev disjunction_part : List (List Factor) → SequenceItem
disjunction_part cs = joined levels.Disjunction (map conjunction_part cs)

-- the clauses of a conjunction
factor_clauses : (fs : List Factor) → map (clause_of levels.Conjunction) (map lone fs) ≡ map (λ f. (occur_in_conjunction f.0, f.1)) fs
factor_clauses [] = refl
factor_clauses (f ∷ fs) = ap (λ (cs : List Clause). clause_of levels.Conjunction (lone f) ∷ cs) (factor_clauses fs)

-- the node of a conjunction
conjunction_node : (fs : List Factor) → node_of levels.Conjunction (map lone fs) ≡ conjunction fs
conjunction_node fs = ap node (factor_clauses fs)

-- the clause of a should
should : Meaning → Clause
should m = (Should, m)

-- the clause of a conjunction in its disjunction
conjunction_clause : (fs : List Factor) → clause_of levels.Disjunction (conjunction_part fs) ≡ should (conjunction fs)
unfolding should
conjunction_clause [] = refl
conjunction_clause (f ∷ []) = refl
conjunction_clause (f ∷ g ∷ fs) = ap should (conjunction_node (f ∷ g ∷ fs))

-- the clauses of a disjunction
conjunction_clauses : (cs : List (List Factor)) → map (clause_of levels.Disjunction) (map conjunction_part cs) ≡ map (λ fs. should (conjunction fs)) cs
conjunction_clauses [] = refl
conjunction_clauses (c ∷ cs) = let e = conjunction_clause c in let f = conjunction_clauses cs in cc

-- the node of a disjunction
disjunction_node : (cs : List (List Factor)) → node_of levels.Disjunction (map conjunction_part cs) ≡ disjunction cs
unfolding should
disjunction_node cs = ap node (conjunction_clauses cs)

-- the clause of a disjunction in its list
clause_of-disjunction : (cs : List (List Factor)) → clause_of levels.List (disjunction_part cs) ≡ disjunction_clause cs
unfolding disjunction_clause should
clause_of-disjunction [] = refl
clause_of-disjunction ([] ∷ []) = refl
clause_of-disjunction ((f ∷ []) ∷ []) = refl
clause_of-disjunction ((f ∷ g ∷ fs) ∷ []) = ap should (conjunction_node (f ∷ g ∷ fs))
clause_of-disjunction (c ∷ d ∷ cs) = ap should (disjunction_node (c ∷ d ∷ cs))

-- the clauses of a list
list_clauses : (ds : List (List (List Factor))) → map (clause_of levels.List) (map disjunction_part ds) ≡ map disjunction_clause ds
list_clauses [] = refl
list_clauses (d ∷ ds) = let e = clause_of-disjunction d in let f = list_clauses ds in cc

-- the node of a list
list_node : (ds : List (List (List Factor))) → node_of levels.List (map disjunction_part ds) ≡ list_meaning ds
unfolding list_meaning
list_node ds = ap node (list_clauses ds)

module _ (unit : Parser Meaning) where
  -- a conjunction is read as an item of a disjunction
  conjunction_item : (s : List ℕ) → item_of levels.Disjunction unit s ≡ over conjunction_part (conjunction_of unit s)
  unfolding sequence_by conjunction_of
  conjunction_item s =
      ap (over (joined levels.Conjunction)) (seq_by-over (separator_of levels.Conjunction) (factor_of unit) lone (factor_part unit) (λ t. refl) (suc (length s))
      s)
      ∙ over_over (joined levels.Conjunction) (map lone) (seq_by (suc (length s)) (separator_of levels.Conjunction) (factor_of unit) s)

  -- a disjunction is read as an item of a list
  disjunction_item : (s : List ℕ) → item_of levels.List unit s ≡ over disjunction_part (disjunction_of unit s)
  unfolding sequence_by disjunction_of
  disjunction_item s =
      ap (over (joined levels.Disjunction)) (seq_by-over (separator_of levels.Disjunction) (conjunction_of unit) conjunction_part
      (item_of levels.Disjunction unit) conjunction_item (suc (length s)) s)
      ∙ over_over (joined levels.Disjunction) (map conjunction_part) (seq_by (suc (length s)) (separator_of levels.Disjunction) (conjunction_of unit) s)

  -- a list is read as the node of its items
  meaning_of-items : (s : List ℕ) →
      meaning_of unit s ≡ over (node_of levels.List) (seq_by (suc (length s)) (separator_of levels.List) (item_of levels.List unit) s)
  unfolding meaning_of list_of
  meaning_of-items s =
      let items = seq_by (suc (length s)) (separator_of levels.List) (disjunction_of unit) s in
      let e : over (node_of levels.List) (seq_by (suc (length s)) (separator_of levels.List) (item_of levels.List unit) s)
      ≡ over (node_of levels.List) (over (map disjunction_part) items) =
      ap (over (node_of levels.List)) (seq_by-over (separator_of levels.List) (disjunction_of unit) disjunction_part (item_of levels.List unit) disjunction_item
      (suc (length s)) s) in
      sym (e ∙ over_over (node_of levels.List) (map disjunction_part) items ∙ over_same (λ ds. node_of levels.List (map disjunction_part ds)) list_meaning items
      list_node)

-- a parser leaves no more than there was
abbrev IsShorter : {A : Type 0} → Parser A → Type 0
IsShorter {A} p = (s : List ℕ) (y : A × List ℕ) → p s ≡ Some y → length y.1 ≤ length s

-- a parser under a view leaves as much as the parser
over_shorter : {A B : Type 0} (h : A → B) (p : Parser A) → IsShorter p → IsShorter (λ s. over h (p s))
over_shorter h p short s y e =
    let x = over_some h (p s) y e in
    omega (arith, short s x.0 x.1, ap length x.3)

-- a separator isn't empty
separator_shorter : (level : Level) (s t : List ℕ) → separator_of level s ≡ Some t → length t < length s
separator_shorter levels.Conjunction s t e =
    let w = read_is_operator (codes "AND") plain_and s t e in
    let o = w.1 in
    omega (arith, ap length w.2, length-append w.0 t, ap length o.2, length-append o.0 (codes "AND" ++ o.1), o.3.0)
separator_shorter levels.Disjunction s t e =
    let w = read_is_operator (codes "OR") plain_or s t e in
    let o = w.1 in
    omega (arith, ap length w.2, length-append w.0 t, ap length o.2, length-append o.0 (codes "OR" ++ o.1), o.3.0)
separator_shorter levels.List s t e =
    let w = read_is_space s t e in
    omega (arith, ap length w.2, length-append w.0 t, w.1.0)

module _ {A : Type 0} (level : Level) (item : Parser A) (item_shorter : IsShorter item) where
  -- the items after one leave no more than there was
  follow_shorter : (o : Option (List ℕ)) (rest : List ℕ) (next : Parser (List A)) (y : List A × List ℕ) → separator_of level rest ≡ o → IsShorter next →
      follow o rest next ≡ Some y → length y.1 ≤ length rest
  follow_shorter None rest next y e h g =
      let k : ◌≡◌ {A = List A × List ℕ} ([], rest) y = same_Some _ _ g in
      omega (arith, ap (λ (p : List A × List ℕ). length p.1) k)
  follow_shorter (Some t) rest next y e h g = omega (arith, h t y g, separator_shorter level rest t e)

  -- a sequence leaves no more than there was
  seq_by_shorter : (n : ℕ) → IsShorter (seq_by n (separator_of level) item)
  unfolding seq_by
  seq_by_shorter zero s y e = absurd cc
  seq_by_shorter (suc n) s y e =
      let next : Parser (List A) = λ t. seq_by n (separator_of level) item t in
      let b = and_then_some (item s) (λ (x : Read A). onto x.0 (follow (separator_of level x.1) x.1 next)) y e in
      let q = onto_some b.0.0 (follow (separator_of level b.0.1) b.0.1 next) y b.2 in
      omega (arith, item_shorter s b.0 b.1, follow_shorter (separator_of level b.0.1) b.0.1 next q.0 refl (seq_by_shorter n) q.1, ap length q.3)

-- a sequence of a level leaves no more than there was
sequence_by_shorter : (level : Level) (item : Parser SequenceItem) → IsShorter item → IsShorter (sequence_by level item)
unfolding sequence_by
sequence_by_shorter level item short s y e =
    over_shorter (joined level) (seq_by (suc (length s)) (separator_of level) item) (seq_by_shorter level item short (suc (length s))) s y e

module _ (schema : List Field) (depth : ℕ) where
  -- the parser of units of a nesting
  abbrev unit : Parser Meaning
  unit = unit_of schema depth

  -- a factor leaves no more than there was
  factor_shorter : IsShorter (factor_part unit)
  factor_shorter = over_shorter lone (factor_of unit) (λ s y e. let f = read_is_factor schema unit (read_is_unit schema depth) s y e in
      omega (arith, ap length f.2, length-append f.0 y.1))

  -- an item leaves no more than there was
  item_shorter : (level : Level) → IsShorter (item_of level unit)
  item_shorter levels.Conjunction = factor_shorter
  item_shorter levels.Disjunction = sequence_by_shorter levels.Conjunction (factor_part unit) factor_shorter
  item_shorter levels.List =
      sequence_by_shorter levels.Disjunction (item_of levels.Disjunction unit) (sequence_by_shorter levels.Conjunction (factor_part unit) factor_shorter)

  module _ (level : Level) where
    -- the clauses so far and those that follow give the total, if enough may follow
    pub record Goes (g : Gathered) (rest : List ℕ) (total : Option (Gathered × List ℕ)) : Type 0 where
      pub most : ℕ
      pub enough : length rest ≤ most
      pub whole : then_gathered level g (following most level unit rest) ≡ total

    -- a first item is collected before the others
    onto_gathered : (g : Gathered) (x : SequenceItem) (o : Option (List SequenceItem × List ℕ)) →
        then_gathered level g (onto x o) ≡ then_gathered level (gather g (clause_of level x)) o
    onto_gathered g x None = refl
    onto_gathered g x (Some y) = refl

    -- the total of an item and of those that follow it
    abbrev pub total_of : ℕ → SequenceItem → List ℕ → Option (Gathered × List ℕ)
    total_of n first text = then_gathered level nothing_gathered (onto first (following n level unit text))

    -- the first item is collected
    pub Goes-start : (g : Gathered) (first : SequenceItem) (text : List ℕ) (n : ℕ) → g ≡ gather nothing_gathered (clause_of level first) → length text ≤ n →
        Goes g text (total_of n first text)
    Goes-start g first text n e l = record {
      most = n;
      enough = l;
      whole = ap (λ (h : Gathered). then_gathered level h (following n level unit text)) e
          ∙ sym (onto_gathered nothing_gathered first (following n level unit text));
    }

    -- the items after a separator
    following_next : (m : ℕ) (rest next : List ℕ) → Some next ≡ separator_of level rest →
        following m level unit rest ≡ seq_by m (separator_of level) (item_of level unit) next
    following_next m rest next e = ap (λ (o : Option (List ℕ)). follow o rest (λ t. seq_by m (separator_of level) (item_of level unit) t)) (sym e)

    -- no items follow if there is no separator
    following_last : (m : ℕ) (rest : List ℕ) → None ≡ separator_of level rest → following m level unit rest ≡ Some ([], rest)
    following_last m rest e = ap (λ (o : Option (List ℕ)). follow o rest (λ t. seq_by m (separator_of level) (item_of level unit) t)) (sym e)

    -- a sequence after its first item
    seq_by-item : (m : ℕ) (s left : List ℕ) (p : SequenceItem) → item_of level unit s ≡ Some (p, left) → seq_by (suc m) (separator_of level) (item_of level unit) s
        ≡ onto p (following m level unit left)
    unfolding seq_by
    seq_by-item m s left p e =
        ap (option_and_then (λ (x : Read SequenceItem). onto x.0 (follow (separator_of level x.1) x.1 (λ t. seq_by m (separator_of level) (item_of level unit) t)))) e

    -- no sequence is read without a first item
    seq_by-none : (m : ℕ) (s : List ℕ) → item_of level unit s ≡ None → seq_by (suc m) (separator_of level) (item_of level unit) s ≡ None
    unfolding seq_by
    seq_by-none m s e = ap
        (option_and_then (λ (x : Read SequenceItem). onto x.0 (follow (separator_of level x.1) x.1 (λ t. seq_by m (separator_of level) (item_of level unit) t)))) e

    -- another item is collected, by the number that may follow
    next_step : (m : ℕ) (g h : Gathered) (rest next left : List ℕ) (p : SequenceItem) (total : Option (Gathered × List ℕ)) → length rest ≤ m →
        then_gathered level g (following m level unit rest) ≡ total → Some next ≡ separator_of level rest → item_of level unit next ≡ Some (p, left) →
        h ≡ gather g (clause_of level p) → Goes h left total
    next_step zero g h rest next left p total l w e i k = absurd (let s = separator_shorter level rest next (sym e) in omega arith)
    next_step (suc m) g h rest next left p total l w e i k =
        let q : following (suc m) level unit rest ≡ onto p (following m level unit left) = following_next (suc m) rest next e ∙ seq_by-item m next left p i in
        record {
          most = m;
          enough = let s = separator_shorter level rest next (sym e) in let r = item_shorter level next (p, left) i in omega arith;
          whole = ap (λ (x : Gathered). then_gathered level x (following m level unit left)) k ∙ sym (onto_gathered g p (following m level unit left))
              ∙ sym (ap (then_gathered level g) q) ∙ w;
        }

    -- another item is collected
    pub Goes-next : (g h : Gathered) (rest next left : List ℕ) (p : SequenceItem) (total : Option (Gathered × List ℕ)) → Some next ≡ separator_of level rest →
        item_of level unit next ≡ Some (p, left) → h ≡ gather g (clause_of level p) → Goes g rest total → Goes h left total
    Goes-next g h rest next left p total e i k goes = next_step goes.most g h rest next left p total goes.enough goes.whole e i k

    -- a separator and an item leave less than there was
    pub Goes-smaller : (rest next left : List ℕ) (p : SequenceItem) → Some next ≡ separator_of level rest → item_of level unit next ≡ Some (p, left) →
        length left < length rest
    Goes-smaller rest next left p e i = let s = separator_shorter level rest next (sym e) in let r = item_shorter level next (p, left) i in omega arith

    -- the collected clauses are those of all items
    gathered_is : (o : Option (List SequenceItem × List ℕ)) (g : Gathered) (rest : List ℕ) → then_gathered level nothing_gathered o ≡ Some (g, rest) →
        over (node_of level) o ≡ Some (gathered_node g, rest)
    gathered_is None g rest e = absurd (let k = e in cc)
    gathered_is (Some x) g rest e =
        let k : ◌≡◌ {A = Gathered × List ℕ} (gather_all nothing_gathered (map (clause_of level) x.0), x.1) (g, rest) = same_Some _ _ e in
        let n : node_of level x.0 ≡ gathered_node g = sym (gathered_node-all (map (clause_of level) x.0)) ∙ ap (λ (p : Gathered × List ℕ). gathered_node p.0)
        k in
        ap (λ (m : Meaning). Some (m, x.1)) n ∙ ap (λ (p : Gathered × List ℕ). Some (gathered_node g, p.1)) k

    -- if nothing is collected, nothing is read
    gathered_none : {C : Type 0} (view : List SequenceItem → C) (o : Option (List SequenceItem × List ℕ)) → then_gathered level nothing_gathered o ≡ None → over view o ≡ None
    gathered_none view None e = refl
    gathered_none view (Some x) e = absurd (let k = e in cc)

    -- the sequence ends if no separator follows
    pub Goes-last : (n : ℕ) (first : SequenceItem) (text rest : List ℕ) (g : Gathered) (m : Meaning) → None ≡ separator_of level rest →
        Goes g rest (total_of n first text) → m ≡ gathered_node g → over (node_of level) (onto first (following n level unit text)) ≡ Some (m, rest)
    Goes-last n first text rest g m e goes k =
        gathered_is (onto first (following n level unit text)) g rest (sym goes.whole ∙ ap (then_gathered level g) (following_last goes.most rest e))
        ∙ ap (λ (x : Meaning). Some (x, rest)) (sym k)

    -- a missing item ends the reading, by the number that may follow
    fail_step : (m : ℕ) (g : Gathered) (rest next : List ℕ) (total : Option (Gathered × List ℕ)) → length rest ≤ m →
        then_gathered level g (following m level unit rest) ≡ total → Some next ≡ separator_of level rest → item_of level unit next ≡ None → total ≡ None
    fail_step zero g rest next total l w e i = absurd (let s = separator_shorter level rest next (sym e) in omega arith)
    fail_step (suc m) g rest next total l w e i = sym w ∙ ap (then_gathered level g) (following_next (suc m) rest next e ∙ seq_by-none m next i)

    -- a missing item ends the reading
    pub Goes-fails : (error : ParseError) (n : ℕ) (first : SequenceItem) (text rest next : List ℕ) (g : Gathered) → Some next ≡ separator_of level rest →
        Misses error (item_of level unit next) → Goes g rest (total_of n first text) →
        Misses error (over (node_of level) (onto first (following n level unit text)))
    Goes-fails Memory n first text rest next g e i goes = tt
    Goes-fails (Syntax left) n first text rest next g e i goes =
        gathered_none (node_of level) (onto first (following n level unit text)) (fail_step goes.most g rest next (total_of n first text) goes.enough goes.whole
        e i)

    -- a sequence of one item is that item
    pub sequence_lone : (s rest : List ℕ) (p : SequenceItem) → item_of level unit s ≡ Some (p, rest) → None ≡ separator_of level rest →
        sequence_of level unit s ≡ Some (p, rest)
    unfolding sequence_by
    sequence_lone s rest p e f = ap (over (joined level)) (seq_by-item (length s) s rest p e ∙ ap (onto p) (following_last (length s) rest f))

    -- no sequence is read without a first item
    pub sequence_fails : (error : ParseError) (s : List ℕ) → Misses error (item_of level unit s) → Misses error (sequence_of level unit s)
    unfolding sequence_by
    sequence_fails Memory s e = tt
    sequence_fails (Syntax left) s e = ap (over (joined level)) (seq_by-none (length s) s e)

    -- no sequence is empty
    nonempty : (n : ℕ) (s t : List ℕ) → seq_by n (separator_of level) (item_of level unit) s ≡ Some ([], t) → ⊥
    unfolding seq_by
    nonempty zero s t e = cc
    nonempty (suc n) s t e =
        let next : Parser (List SequenceItem) = λ u. seq_by n (separator_of level) (item_of level unit) u in
        let b = and_then_some (item_of level unit s) (λ (x : Read SequenceItem). onto x.0 (follow (separator_of level x.1) x.1 next)) ([], t) e in
        let q = onto_some b.0.0 (follow (separator_of level b.0.1) b.0.1 next) ([], t) b.2 in
        let k : b.0.0 ∷ q.0.0 ≡ [] = q.2 in
        cc

    -- two or more items are joined to a node
    joined_several : (p : SequenceItem) (o : Option (List SequenceItem × List ℕ)) (next : List ℕ) (n : ℕ) (m : Meaning) (rest : List ℕ) →
        seq_by n (separator_of level) (item_of level unit) next ≡ o → over (node_of level) (onto p o) ≡ Some (m, rest) →
        over (joined level) (onto p o) ≡ Some (several m, rest)
    joined_several p None next n m rest e h = absurd (let k = h in cc)
    joined_several p (Some ([], t)) next n m rest e h = absurd (nonempty n next t e)
    joined_several p (Some (q ∷ ps, t)) next n m rest e h =
        let k : ◌≡◌ {A = Meaning × List ℕ} (node_of level (p ∷ q ∷ ps), t) (m, rest) = same_Some _ _ h in
        ap (λ (x : Meaning × List ℕ). Some (several x.0, x.1)) k

    -- a sequence of several items is their node
    pub sequence_several : (s rest next left : List ℕ) (p : SequenceItem) (m : Meaning) → item_of level unit s ≡ Some (p, rest) → Some next ≡ separator_of level rest →
        over (node_of level) (onto p (following (length s) level unit rest)) ≡ Some (m, left) → sequence_of level unit s ≡ Some (several m, left)
    unfolding sequence_by
    sequence_several s rest next left p m e f h =
        let k : following (length s) level unit rest ≡ seq_by (length s) (separator_of level) (item_of level unit) next =
        following_next (length s) rest next f in
        ap (over (joined level)) (seq_by-item (length s) s rest p e) ∙ joined_several p (following (length s) level unit rest) next (length s) m left (sym k) h

    -- if nothing is read under one view, nothing is read under another
    none_onto : {C D : Type 0} (view : List SequenceItem → C) (other : List SequenceItem → D) (o : Option (List SequenceItem × List ℕ)) → over view o ≡ None → over other o ≡ None
    none_onto view other None e = refl
    none_onto view other (Some x) e = absurd (let k = e in cc)

    -- no sequence is read if a later item is missing
    pub sequence_stops : (error : ParseError) (s rest : List ℕ) (p : SequenceItem) → item_of level unit s ≡ Some (p, rest) →
        Misses error (over (node_of level) (onto p (following (length s) level unit rest))) → Misses error (sequence_of level unit s)
    unfolding sequence_by
    sequence_stops Memory s rest p e h = tt
    sequence_stops (Syntax left) s rest p e h =
        ap (over (joined level)) (seq_by-item (length s) s rest p e) ∙ none_onto (node_of level) (joined level) (onto p (following (length s) level unit rest))
        h

  -- a list after its first item
  pub meaning_of-first : (s rest : List ℕ) (p : SequenceItem) → item_of levels.List unit s ≡ Some (p, rest) →
      meaning_of unit s ≡ over (node_of levels.List) (onto p (following (length s) levels.List unit rest))
  meaning_of-first s rest p e = meaning_of-items unit s ∙ ap (over (node_of levels.List)) (seq_by-item levels.List (length s) s rest p e)

  -- no list is read without a first item
  pub meaning_of_fails : (error : ParseError) (s : List ℕ) → Misses error (item_of levels.List unit s) → Misses error (meaning_of unit s)
  meaning_of_fails Memory s e = tt
  meaning_of_fails (Syntax left) s e = meaning_of-items unit s ∙ ap (over (node_of levels.List)) (seq_by-none levels.List (length s) s e)

  -- a list's first item leaves no more than there was
  pub first_shorter : (level : Level) (s rest : List ℕ) (p : SequenceItem) → item_of level unit s ≡ Some (p, rest) → length rest ≤ length s
  first_shorter level s rest p e = item_shorter level s (p, rest) e
