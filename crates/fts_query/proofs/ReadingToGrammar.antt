-- A part that is read from the front is in the grammar.
use Rattle.std.proofs.Common.{◌≡◌, ℕ, zero, suc, ◌<◌, Bool, true, false, not, ◌&&◌, List, [], ◌∷◌, ◌++◌, length, codes, Option, Some, None, Ok, refl, sym, ap}
use Rattle.std.proofs.Common.{subst, ◌∙◌, append_assoc, arith, inl, inr}
use Rattle.std.specs.Prelude.{◌==◌, option_and_then, take_while}
use Rattle.std.proofs.lemmas.Bool.{and_parts, eqb-true}
use Rattle.std.proofs.lemmas.List.{append-nil}
use Rattle.std.proofs.lemmas.Option.{cond_some, same_Some}
use Rattle.std.specs.Str.{encode_utf8_all, bytes_eq}
use Rattle.std.specs.declared.ops.Bound.{Bound}
use Rattle.std.specs.declared.ops.Bound.TheVariants.{Unbounded}
use Rattle.fts_model.specs.declared.schema.Field.{Field}
use Rattle.fts_model.specs.Schemas.{is_reserved}
use Rattle.fts_query.specs.declared.clauses.Modifier.{Modifier}
use Rattle.fts_query.specs.declared.clauses.Modifier.TheVariants.{Plain, Plus, Minus}
use Rattle.fts_model.specs.QueryValues.{every}
use Rattle.fts_query.specs.Meanings.{Meaning, Factor, Value, literal, between, list_meaning, literal_anywhere, field_meaning}
use Rattle.fts_query.specs.Grammar.{is_space, is_word_char, is_bare, IsBare, IsWord, IsBound, bound, IsValue, Opens, Closes, begins_equals, IsBlank, IsSpace}
use Rattle.fts_query.specs.Grammar.{IsOperator, IsModifier, IsUnit, IsFactor, IsConjunction, IsDisjunction, IsList, IsQuery, quoted_text}
use Rattle.fts_query.specs.Reading.{Parser, word, begins_space, closes, space_at, operator_at, Read, onto, follow, seq_by, negation_of, modifier_of, factor_of}
use Rattle.fts_query.specs.Reading.{conjunction_of, disjunction_of, list_of, over, meaning_of, close, unquoted, in_bytes, quoted_of, word_of, bound_of}
use Rattle.fts_query.specs.Reading.{range_end, range_of, compared_of, above_of, below_of, quoted_value_of, plain_of, value_of, after_bare, begins_modifier}
use Rattle.fts_query.specs.Reading.{bare_of, quoted_literal_of, group_of, unit_by, unit_of, ended, query_of, skip_while}
use Rattle.fts_query.proofs.ReadingLemmas.{take_while_more, IsPlain, plain_and, plain_or, plain_not, plain_to, word_is, is_reserved-encoded, word_parts}
use Rattle.fts_query.proofs.ReadingLemmas.{skip_while_parts, space_parts, read_is_unquoted, chosen}
use Rattle.fts_query.specs.Grammar

-- the front of a text is in the language P, with the meaning x
abbrev pub Front : {A : Type 0} → (List ℕ → A → Type 0) → List ℕ → A × List ℕ → Type 0
Front P s y = (x : List ℕ) × P x y.0 × (s ≡ x ++ y.1)

-- the parser finds nothing but P
abbrev pub FindsOnly : {A : Type 0} → (List ℕ → A → Type 0) → Parser A → Type 0
FindsOnly {A} P p = (s : List ℕ) (y : A × List ℕ) → p s ≡ Some y → Front P s y

-- white space that is read is in the grammar
pub read_is_space : (s t : List ℕ) → space_at s ≡ Some t → (w : List ℕ) × IsSpace w × (s ≡ w ++ t)
unfolding space_at
read_is_space s t e =
    let c = cond_some (begins_space s && not (closes (skip_while is_space s))) (skip_while is_space s) t e in
    let b = and_parts (begins_space s) (not (closes (skip_while is_space s))) c.0 in
    let p = space_parts s b.0 in
    (p.0, p.1, p.2 ∙ ap (λ (x : List ℕ). p.0 ++ x) c.1)

-- an operator that is read is in the grammar
pub read_is_operator : (name : List ℕ) → IsPlain name → (s t : List ℕ) → operator_at name s ≡ Some t → (w : List ℕ) × IsOperator name w × (s ≡ w ++ t)
unfolding operator_at
read_is_operator name ascii s t e =
    let c = cond_some (begins_space s && (bytes_eq (word (skip_while is_space s)) name && begins_space (skip_while is_word_char (skip_while is_space s))))
    (skip_while is_space (skip_while is_word_char (skip_while is_space s))) t e in
    let b = and_parts (begins_space s) (bytes_eq (word (skip_while is_space s)) name && begins_space (skip_while is_word_char (skip_while is_space s))) c.0 in
    let d = and_parts (bytes_eq (word (skip_while is_space s)) name) (begins_space (skip_while is_word_char (skip_while is_space s))) b.1 in
    let p = space_parts s b.0 in
    let q = space_parts (skip_while is_word_char (skip_while is_space s)) d.1 in
    let is-name : take_while is_word_char (skip_while is_space s) ≡ name = word_is (skip_while is_space s) name ascii d.0 in
    let word : skip_while is_space s ≡ name ++ skip_while is_word_char (skip_while is_space s) =
    (word_parts (skip_while is_space s)).0 ∙ ap (λ (x : List ℕ). x ++ skip_while is_word_char (skip_while is_space s)) is-name in
    let whole : s ≡ p.0 ++ (name ++ (q.0 ++ t)) =
    p.2 ∙ ap (λ (x : List ℕ). p.0 ++ x) (word ∙ ap (λ (x : List ℕ). name ++ x) (q.2 ∙ ap (λ (x : List ℕ). q.0 ++ x) c.1)) in
    (p.0 ++ (name ++ q.0), (p.0, q.0, refl, p.1, q.1), whole ∙ simp append_assoc)

-- a step after another succeeds only if both do
pub and_then_some : {A B : Type 0} (o : Option A) (f : A → Option B) (y : B) → option_and_then f o ≡ Some y → (x : A) × (o ≡ Some x) × (f x ≡ Some y)
and_then_some None f y e = absurd cc
and_then_some (Some x) f y e = (x, refl, e)

-- a sequence that is read has a first item and others
pub onto_some : {A : Type 0} (a : A) (o : Option (List A × List ℕ)) (y : List A × List ℕ) → onto a o ≡ Some y →
    (x : List A × List ℕ) × (o ≡ Some x) × ((a ∷ x.0) ≡ y.0) × (x.1 ≡ y.1)
onto_some {A} a None y e = absurd cc
onto_some {A} a (Some x) y e =
    let h : ◌≡◌ {A = List A × List ℕ} (a ∷ x.0, x.1) y = same_Some _ _ e in
    (x, refl, ap (λ (p : List A × List ℕ). p.0) h, ap (λ (p : List A × List ℕ). p.1) h)

module _ {A : Type 0} (sep : List ℕ → Option (List ℕ)) (item : Parser A) (Sep : List ℕ → Type 0) (Item : List ℕ → A → Type 0) (Seq : List ℕ → List A → Type 0)
    (read_is_sep : (s t : List ℕ) → sep s ≡ Some t → (w : List ℕ) × Sep w × (s ≡ w ++ t))
    (read_is_item : FindsOnly Item item)
    (one : (s : List ℕ) (a : A) → Item s a → Seq s (a ∷ []))
    (more : (s w t : List ℕ) (a : A) (xs : List A) → Item s a → Sep w → Seq t xs → Seq (s ++ (w ++ t)) (a ∷ xs)) where
  -- equal parts make the same front
  moved : (s : List ℕ) (xs : List A) (r : List ℕ) (y : List A × List ℕ) → xs ≡ y.0 → r ≡ y.1 → Front Seq s (xs, r) → Front Seq s y
  moved s xs r y e f h = let k : ◌≡◌ {A = List A × List ℕ} (xs, r) (y.0, y.1) = cc in subst (λ (p : List A × List ℕ). Front Seq s p) k h

  -- an item and those after it are in the grammar if they are read
  read_is_onto : (o : Option (List ℕ)) (s : List ℕ) (a : A) (rest : List ℕ) (next : Parser (List A)) (y : List A × List ℕ)
      → sep rest ≡ o → Front Item s (a, rest) → FindsOnly Seq next → onto a (follow o rest next) ≡ Some y → Front Seq s y
  read_is_onto None s a rest next y e f h g =
      let k : ◌≡◌ {A = List A × List ℕ} (a ∷ [], rest) y = same_Some _ _ g in
      subst (λ (p : List A × List ℕ). Front Seq s p) k (f.0, one f.0 a f.1, f.2)
  read_is_onto (Some t) s a rest next y e f h g =
      let q = onto_some a (next t) y g in
      let w = read_is_sep rest t e in
      let i = h t q.0 q.1 in
      let parts : s ≡ (f.0 ++ (w.0 ++ i.0)) ++ q.0.1 = f.2 ∙ ap (λ (x : List ℕ). f.0 ++ x) (w.2 ∙ ap (λ (x : List ℕ). w.0 ++ x) i.2) ∙ simp append_assoc in
      moved s (a ∷ q.0.0) q.0.1 y q.2 q.3 (f.0 ++ (w.0 ++ i.0), more f.0 w.0 i.0 a q.0.0 f.1 w.1 i.1, parts)

  -- a sequence that is read is in the grammar
  read_is_seq : (n : ℕ) → FindsOnly Seq (seq_by n sep item)
  unfolding seq_by
  read_is_seq zero s y e = absurd cc
  read_is_seq (suc n) s y e =
      let b = and_then_some (item s) (λ (x : Read A). onto x.0 (follow (sep x.1) x.1 (λ t. seq_by n sep item t))) y e in
      read_is_onto (sep b.0.1) s b.0.0 b.0.1 (λ t. seq_by n sep item t) y refl (read_is_item s b.0 b.1) (read_is_seq n) b.2

-- a negation that is read is in the grammar
read_is_negation : (s t : List ℕ) (y : Modifier × List ℕ) → s ≡ codes "NOT" ++ t → negation_of t ≡ Some y → Front IsModifier s y
read_is_negation s t y e h =
    elim (chosen (begins_space t) (Some (Minus, skip_while is_space t)) None (Some y) h) [
      | inl p ↦
          let w = space_parts t p.0 in
          let k : ◌≡◌ {A = Modifier × List ℕ} (Minus, skip_while is_space t) y = same_Some _ _ p.1 in
          let parts : s ≡ (codes "NOT" ++ w.0) ++ skip_while is_space t = e ∙ ap (λ (x : List ℕ). codes "NOT" ++ x) w.2 in
          subst (λ (p : Modifier × List ℕ). Front IsModifier s p) k (codes "NOT" ++ w.0, Grammar.IsModifier.negated w.1, parts)
      | inr p ↦ absurd (let k = p.1 in cc)
    ]

-- a modifier that is read is in the grammar
read_is_modifier : FindsOnly IsModifier modifier_of
unfolding modifier_of
read_is_modifier [] y e = absurd cc
read_is_modifier (c ∷ s) y e =
    elim (chosen (c == 43) _ _ _ e) [
      | inl p ↦
          let k : c ≡ 43 = eqb-true c 43 p.0 in
          let h : ◌≡◌ {A = Modifier × List ℕ} (Plus, s) y = same_Some _ _ p.1 in
          subst (λ (p : Modifier × List ℕ). Front IsModifier (c ∷ s) p) h (43 ∷ [], Grammar.IsModifier.required, ap (λ (x : ℕ). x ∷ s) k)
      | inr n ↦ elim (chosen (c == 45) _ _ _ n.1) [
        | inl p ↦
            let k : c ≡ 45 = eqb-true c 45 p.0 in
            let h : ◌≡◌ {A = Modifier × List ℕ} (Minus, s) y = same_Some _ _ p.1 in
            subst (λ (p : Modifier × List ℕ). Front IsModifier (c ∷ s) p) h (45 ∷ [], Grammar.IsModifier.prohibited, ap (λ (x : ℕ). x ∷ s) k)
        | inr m ↦ elim (chosen (bytes_eq (word (c ∷ s)) (codes "NOT")) _ _ _ m.1) [
          | inl p ↦
              let is-not : take_while is_word_char (c ∷ s) ≡ codes "NOT" = word_is (c ∷ s) (codes "NOT") plain_not p.0 in
              let parts : c ∷ s ≡ codes "NOT" ++ skip_while is_word_char (c ∷ s) =
              (word_parts (c ∷ s)).0 ∙ ap (λ (x : List ℕ). x ++ skip_while is_word_char (c ∷ s)) is-not in
              read_is_negation (c ∷ s) (skip_while is_word_char (c ∷ s)) y parts p.1
          | inr p ↦
              let h : ◌≡◌ {A = Modifier × List ℕ} (Plain, c ∷ s) y = same_Some _ _ p.1 in
              subst (λ (p : Modifier × List ℕ). Front IsModifier (c ∷ s) p) h ([], Grammar.IsModifier.plain, refl)
        ]
      ]
    ]

module _ (schema : List Field) (unit : Parser Meaning) (read_is_unit : FindsOnly (IsUnit schema) unit) where
  -- a factor that is read is in the grammar
  pub read_is_factor : FindsOnly (IsFactor schema) (factor_of unit)
  unfolding factor_of
  read_is_factor s y e =
      let m = and_then_some (modifier_of s) (λ (m : Read Modifier). option_and_then (λ (u : Read Meaning). Some ((m.0, u.0), u.1)) (unit m.1)) y e in
      let u = and_then_some (unit m.0.1) (λ (u : Read Meaning). Some ((m.0.0, u.0), u.1)) y m.2 in
      let h : ◌≡◌ {A = Factor × List ℕ} ((m.0.0, u.0.0), u.0.1) y = same_Some _ _ u.2 in
      let v = read_is_modifier s m.0 m.1 in
      let f = read_is_unit m.0.1 u.0 u.1 in
      let parts : s ≡ (v.0 ++ f.0) ++ u.0.1 = v.2 ∙ ap (λ (x : List ℕ). v.0 ++ x) f.2 ∙ sym (append_assoc v.0 f.0 u.0.1) in
      subst (λ (p : Factor × List ℕ). Front (IsFactor schema) s p) h (v.0 ++ f.0, Grammar.factor v.0 f.0 v.1 f.1, parts)

  -- a conjunction that is read is in the grammar
  read_is_conjunction : FindsOnly (IsConjunction schema) (conjunction_of unit)
  unfolding conjunction_of
  read_is_conjunction s = read_is_seq (operator_at (codes "AND")) (factor_of unit) (IsOperator (codes "AND")) (IsFactor schema) (IsConjunction schema)
      (read_is_operator (codes "AND") plain_and) read_is_factor (λ t a h. Grammar.one h) (λ t w u a xs h k l. Grammar.both t w u h k l) (suc (length s)) s

  -- a disjunction that is read is in the grammar
  read_is_disjunction : FindsOnly (IsDisjunction schema) (disjunction_of unit)
  unfolding disjunction_of
  read_is_disjunction s = read_is_seq (operator_at (codes "OR")) (conjunction_of unit) (IsOperator (codes "OR")) (IsConjunction schema) (IsDisjunction schema)
      (read_is_operator (codes "OR") plain_or) read_is_conjunction (λ t a h. Grammar.conjunction h) (λ t w u a xs h k l. Grammar.either t w u h k l)
      (suc (length s)) s

  -- a list that is read is in the grammar
  read_is_list : FindsOnly (IsList schema) (list_of unit)
  unfolding list_of
  read_is_list s = read_is_seq space_at (disjunction_of unit) IsSpace (IsDisjunction schema) (IsList schema) read_is_space read_is_disjunction
      (λ t a h. Grammar.single h) (λ t w u a xs h k l. Grammar.several t w u h k l) (suc (length s)) s

-- a `)` that is read closes the list
close_some : (m : Meaning) (s : List ℕ) (y : Meaning × List ℕ) → close m s ≡ Some y → (s ≡ 41 ∷ y.1) × (m ≡ y.0)
close_some m [] y e = absurd cc
close_some m (c ∷ s) y e =
    let b = cond_some (c == 41) (m, s) y e in
    let k : c ≡ 41 = eqb-true c 41 b.0 in
    (rw k (ap (λ (p : Meaning × List ℕ). 41 ∷ p.1) b.1), ap (λ (p : Meaning × List ℕ). p.0) b.1)

-- if an image was read, the part was read
pub over_some : {A B : Type 0} (h : A → B) (o : Option (A × List ℕ)) (y : B × List ℕ) → over h o ≡ Some y →
    (x : A × List ℕ) × (o ≡ Some x) × (h x.0 ≡ y.0) × (x.1 ≡ y.1)
over_some h None y e = absurd cc
over_some {B = B} h (Some x) y e =
    let k : ◌≡◌ {A = B × List ℕ} (h x.0, x.1) y = same_Some _ _ e in
    (x, refl, ap (λ (p : B × List ℕ). p.0) k, ap (λ (p : B × List ℕ). p.1) k)

-- a list at the front, with its meaning
abbrev pub FrontMeaning : List Field → List ℕ → Meaning × List ℕ → Type 0
FrontMeaning schema s y = (x : List ℕ) × (cs : List (List (List Factor))) × IsList schema x cs × (list_meaning cs ≡ y.0) × (s ≡ x ++ y.1)

-- a list that is read with its meaning is in the grammar
read_is_meaning : (schema : List Field) (unit : Parser Meaning) → FindsOnly (IsUnit schema) unit → (s : List ℕ) (y : Meaning × List ℕ) →
    meaning_of unit s ≡ Some y → FrontMeaning schema s y
unfolding meaning_of
read_is_meaning schema unit u s y e =
    let x = over_some list_meaning (list_of unit s) y e in
    let f = read_is_list schema unit u s x.0 x.1 in
    (f.0, x.0.0, f.1, x.2, f.2 ∙ ap (λ (t : List ℕ). f.0 ++ t) x.3)

-- the word at the front, with its bytes
WordFront : List ℕ → List ℕ × List ℕ → Type 0
WordFront s y = (w : List ℕ) × IsWord w × (encode_utf8_all w ≡ y.0) × (s ≡ w ++ y.1)

-- a word that is read is in the grammar
read_is_word : (s : List ℕ) (y : List ℕ × List ℕ) → word_of s ≡ Some y → WordFront s y
unfolding WordFront word_of
read_is_word [] y e = absurd cc
read_is_word (c ∷ s) y e =
    let b = cond_some (is_word_char c) (word (c ∷ s), skip_while is_word_char (c ∷ s)) y e in
    let p = word_parts (c ∷ s) in
    let k : is_word_char c ≡ true = b.0 in
    let l : 0 < length (take_while is_word_char (c ∷ s)) = rw (take_while_more is_word_char c s k) (omega arith) in
    subst (λ (p : List ℕ × List ℕ). (w : List ℕ) × IsWord w × (encode_utf8_all w ≡ p.0) × ((c ∷ s) ≡ w ++ p.1)) b.1
    (take_while is_word_char (c ∷ s), (l, p.1), refl, p.0)

-- a bound that is read is in the grammar
read_is_bound : FindsOnly IsBound bound_of
unfolding bound_of WordFront
read_is_bound [] y e = absurd cc
read_is_bound (c ∷ s) y e =
    elim (chosen (c == 42) _ _ _ e) [
      | inl p ↦
          let k : c ≡ 42 = eqb-true c 42 p.0 in
          let h : ◌≡◌ {A = Option (List ℕ) × List ℕ} (None, s) y = same_Some _ _ p.1 in
          subst (λ (p : Option (List ℕ) × List ℕ). Front IsBound (c ∷ s) p) h (42 ∷ [], Grammar.IsBound.none, rw k refl)
      | inr p ↦
          let b = and_then_some (word_of (c ∷ s)) (λ x. Some (Some x.0, x.1)) y p.1 in
          let h : ◌≡◌ {A = Option (List ℕ) × List ℕ} (Some b.0.0, b.0.1) y = same_Some _ _ b.2 in
          let w = read_is_word (c ∷ s) b.0 b.1 in
          let is : IsBound w.0 (Some b.0.0) = subst (λ (z : List ℕ). IsBound w.0 (Some z)) w.2 (Grammar.IsBound.at w.1) in
          subst (λ (p : Option (List ℕ) × List ℕ). Front IsBound (c ∷ s) p) h (w.0, is, w.3)
    ]

-- the end of a range that is read is in the grammar
read_is_range_end : (low : Bound (List ℕ)) (high : Option (List ℕ)) (s : List ℕ) (y : Value × List ℕ) → range_end low high s ≡ Some y →
    (e : ℕ) × (j : Bool) × Closes e j × (s ≡ e ∷ y.1) × (between low (bound j high) ≡ y.0)
unfolding range_end
read_is_range_end low high [] y e = absurd cc
read_is_range_end low high (c ∷ s) y e =
    elim (chosen (c == 93) _ _ _ e) [
      | inl p ↦
          let k : c ≡ 93 = eqb-true c 93 p.0 in
          let h : ◌≡◌ {A = Value × List ℕ} (between low (bound true high), s) y = same_Some _ _ p.1 in
          (93, true, Grammar.Closes.included, rw k (ap (λ (p : Value × List ℕ). 93 ∷ p.1) h), ap (λ (p : Value × List ℕ). p.0) h)
      | inr n ↦ elim (chosen (c == 125) _ _ _ n.1) [
        | inl p ↦
            let k : c ≡ 125 = eqb-true c 125 p.0 in
            let h : ◌≡◌ {A = Value × List ℕ} (between low (bound false high), s) y = same_Some _ _ p.1 in
            (125, false, Grammar.Closes.excluded, rw k (ap (λ (p : Value × List ℕ). 125 ∷ p.1) h), ap (λ (p : Value × List ℕ). p.0) h)
        | inr p ↦ absurd (let k = p.1 in cc)
      ]
    ]

-- a range that is read is in the grammar
read_is_range : (b : ℕ) (i : Bool) → Opens b i → (s : List ℕ) (y : Value × List ℕ) → range_of i s ≡ Some y → Front IsValue (b ∷ s) y
unfolding range_of
read_is_range b i o s y e =
    let TO = codes "TO" in
    let x = and_then_some (bound_of (skip_while is_space s))
    (λ x. option_and_then (λ (t : List ℕ). option_and_then (λ (y : Read (Option (List ℕ))). range_end (bound i x.0) y.0 (skip_while is_space y.1))
    (bound_of t)) (operator_at TO x.1)) y e in
    let t = and_then_some (operator_at TO x.0.1) (λ t. option_and_then (λ (y : Read (Option (List ℕ))). range_end (bound i x.0.0) y.0 (skip_while is_space y.1))
    (bound_of t)) y x.2 in
    let h = and_then_some (bound_of t.0) (λ y. range_end (bound i x.0.0) y.0 (skip_while is_space y.1)) y t.2 in
    let r = read_is_range_end (bound i x.0.0) h.0.0 (skip_while is_space h.0.1) y h.2 in
    let u = skip_while_parts s in
    let low = read_is_bound (skip_while is_space s) x.0 x.1 in
    let w = read_is_operator TO plain_to x.0.1 t.0 t.1 in
    let high = read_is_bound t.0 h.0 h.1 in
    let v = skip_while_parts h.0.1 in
    let text : List ℕ = b ∷ (u.0 ++ (low.0 ++ (w.0 ++ (high.0 ++ (v.0 ++ r.0 ∷ []))))) in
    let parts : b ∷ s ≡ text ++ y.1 =
    ap (λ (t : List ℕ). b ∷ t)
    (u.2 ∙ ap (λ (t : List ℕ). u.0 ++ t)
    (low.2 ∙ ap (λ (t : List ℕ). low.0 ++ t)
    (w.2 ∙ ap (λ (t : List ℕ). w.0 ++ t) (high.2 ∙ ap (λ (t : List ℕ). high.0 ++ t) (v.2 ∙ ap (λ (t : List ℕ). v.0 ++ t) r.3)))) ∙ simp append_assoc) in
    let is : IsValue text y.0 = subst (λ (z : Value). IsValue text z) r.4 (Grammar.IsValue.range u.0 low.0 w.0 high.0 v.0 o u.1 low.1 w.1 high.1 v.1 r.2) in
    (text, is, parts)

-- a word whose first character is not `=` does not begin with `=`
no_equals : (c : ℕ) (s w r : List ℕ) → (c == 61) ≡ false → 0 < length w → c ∷ s ≡ w ++ r → begins_equals w ≡ false
no_equals c s [] r e l p = absurd (omega arith)
no_equals c s (d ∷ w) r e l p = let k : c ≡ d = cc in subst (λ (x : ℕ). (x == 61) ≡ false) k e

-- a word after a comparison's mark, and `=` before it if it is included
pub data IsCompared : List ℕ → Bool × List ℕ → Type 0 where
  equal : {w : List ℕ} → IsWord w → IsCompared (61 ∷ w) (true, encode_utf8_all w)
  other : {w : List ℕ} → IsWord w → begins_equals w ≡ false → IsCompared w (false, encode_utf8_all w)

-- the word of a comparison that is read is in the grammar
read_is_compared : FindsOnly IsCompared compared_of
unfolding compared_of WordFront
read_is_compared [] y e = absurd cc
read_is_compared (c ∷ s) y e =
    elim (chosen (c == 61) _ _ _ e) [
      | inl p ↦
          let k : c ≡ 61 = eqb-true c 61 p.0 in
          let x = and_then_some (word_of s) (λ x. Some ((true, x.0), x.1)) y p.1 in
          let h : ◌≡◌ {A = (Bool × List ℕ) × List ℕ} ((true, x.0.0), x.0.1) y = same_Some _ _ x.2 in
          let w = read_is_word s x.0 x.1 in
          let is : IsCompared (61 ∷ w.0) (true, x.0.0) = subst (λ (z : List ℕ). IsCompared (61 ∷ w.0) (true, z)) w.2 (IsCompared.equal w.1) in
          subst (λ (p : (Bool × List ℕ) × List ℕ). Front IsCompared (c ∷ s) p) h (61 ∷ w.0, is, rw k (ap (λ (t : List ℕ). 61 ∷ t) w.3))
      | inr p ↦
          let x = and_then_some (word_of (c ∷ s)) (λ x. Some ((false, x.0), x.1)) y p.1 in
          let h : ◌≡◌ {A = (Bool × List ℕ) × List ℕ} ((false, x.0.0), x.0.1) y = same_Some _ _ x.2 in
          let w = read_is_word (c ∷ s) x.0 x.1 in
          let is : IsCompared w.0 (false, x.0.0) =
          subst (λ (z : List ℕ). IsCompared w.0 (false, z)) w.2 (IsCompared.other w.1 (no_equals c s w.0 x.0.1 p.0 w.1.0 w.3)) in
          subst (λ (p : (Bool × List ℕ) × List ℕ). Front IsCompared (c ∷ s) p) h (w.0, is, w.3)
    ]

-- a comparison by `>` is in the grammar
above_is : {w : List ℕ} {x : Bool × List ℕ} → IsCompared w x → IsValue (62 ∷ w) (between (bound x.0 (Some x.1)) Unbounded)
above_is (IsCompared.equal h) = Grammar.IsValue.at_least h
above_is (IsCompared.other h n) = Grammar.IsValue.greater h n

-- a comparison by `<` is in the grammar
below_is : {w : List ℕ} {x : Bool × List ℕ} → IsCompared w x → IsValue (60 ∷ w) (between Unbounded (bound x.0 (Some x.1)))
below_is (IsCompared.equal h) = Grammar.IsValue.at_most h
below_is (IsCompared.other h n) = Grammar.IsValue.less h n

-- a quoted text that is read is in the grammar, in bytes
read_is_in_bytes : (s : List ℕ) (o : Option (List ℕ × List ℕ)) (y : List ℕ × List ℕ) → unquoted false s ≡ o → in_bytes o ≡ Some y →
    (t : List ℕ) × (encode_utf8_all t ≡ y.0) × (s ≡ quoted_text t ++ y.1)
read_is_in_bytes s None y h e = absurd cc
read_is_in_bytes s (Some x) y h e =
    let k : ◌≡◌ {A = List ℕ × List ℕ} (encode_utf8_all x.0, x.1) y = same_Some _ _ e in
    let t : s ≡ quoted_text x.0 ++ x.1 = read_is_unquoted false s x h in
    (x.0, ap (λ (p : List ℕ × List ℕ). p.0) k, t ∙ ap (λ (p : List ℕ × List ℕ). quoted_text x.0 ++ p.1) k)

-- a quoted text that is read is in the grammar
read_is_quoted : (s : List ℕ) (y : List ℕ × List ℕ) → quoted_of s ≡ Some y → (t : List ℕ) × (encode_utf8_all t ≡ y.0) × (s ≡ quoted_text t ++ y.1)
unfolding quoted_of
read_is_quoted s y e = read_is_in_bytes s (unquoted false s) y refl e

-- what is read after a field and a colon is in the grammar
read_is_value : FindsOnly IsValue value_of
unfolding value_of quoted_value_of above_of below_of plain_of WordFront
read_is_value [] y e = absurd cc
read_is_value (c ∷ s) y e =
    elim (chosen (c == 34) _ _ _ e) [
      | inl p ↦
          let k : c ≡ 34 = eqb-true c 34 p.0 in
          let x = and_then_some (quoted_of s) (λ x. Some (literal x.0, x.1)) y p.1 in
          let h : ◌≡◌ {A = Value × List ℕ} (literal x.0.0, x.0.1) y = same_Some _ _ x.2 in
          let t = read_is_quoted s x.0 x.1 in
          let is : IsValue (34 ∷ quoted_text t.0) (literal x.0.0) =
          subst (λ (z : List ℕ). IsValue (34 ∷ quoted_text t.0) (literal z)) t.1 (Grammar.IsValue.quoted t.0) in
          subst (λ (p : Value × List ℕ). Front IsValue (c ∷ s) p) h (34 ∷ quoted_text t.0, is, rw k (ap (λ (x : List ℕ). 34 ∷ x) t.2))
      | inr n2 ↦ elim (chosen (c == 91) _ _ _ n2.1) [
        | inl p ↦ let k : c ≡ 91 = eqb-true c 91 p.0 in rw k (read_is_range 91 true Grammar.Opens.included s y p.1)
        | inr n3 ↦ elim (chosen (c == 123) _ _ _ n3.1) [
          | inl p ↦ let k : c ≡ 123 = eqb-true c 123 p.0 in rw k (read_is_range 123 false Grammar.Opens.excluded s y p.1)
          | inr n4 ↦ elim (chosen (c == 62) _ _ _ n4.1) [
            | inl p ↦
                let k : c ≡ 62 = eqb-true c 62 p.0 in
                let x = and_then_some (compared_of s) (λ x. Some (between (bound x.0.0 (Some x.0.1)) Unbounded, x.1)) y p.1 in
                let h : ◌≡◌ {A = Value × List ℕ} (between (bound x.0.0.0 (Some x.0.0.1)) Unbounded, x.0.1) y = same_Some _ _ x.2 in
                let f = read_is_compared s x.0 x.1 in
                subst (λ (p : Value × List ℕ). Front IsValue (c ∷ s) p) h (62 ∷ f.0, above_is f.1, rw k (ap (λ (x : List ℕ). 62 ∷ x) f.2))
            | inr n5 ↦ elim (chosen (c == 60) _ _ _ n5.1) [
              | inl p ↦
                  let k : c ≡ 60 = eqb-true c 60 p.0 in
                  let x = and_then_some (compared_of s) (λ x. Some (between Unbounded (bound x.0.0 (Some x.0.1)), x.1)) y p.1 in
                  let h : ◌≡◌ {A = Value × List ℕ} (between Unbounded (bound x.0.0.0 (Some x.0.0.1)), x.0.1) y = same_Some _ _ x.2 in
                  let f = read_is_compared s x.0 x.1 in
                  subst (λ (p : Value × List ℕ). Front IsValue (c ∷ s) p) h (60 ∷ f.0, below_is f.1, rw k (ap (λ (x : List ℕ). 60 ∷ x) f.2))
              | inr p ↦
                  let x = and_then_some (word_of (c ∷ s)) (λ x. Some (literal x.0, x.1)) y p.1 in
                  let h : ◌≡◌ {A = Value × List ℕ} (literal x.0.0, x.0.1) y = same_Some _ _ x.2 in
                  let w = read_is_word (c ∷ s) x.0 x.1 in
                  let is : IsValue w.0 (literal x.0.0) = subst (λ (z : List ℕ). IsValue w.0 (literal z)) w.2 (Grammar.IsValue.word w.1) in
                  subst (λ (p : Value × List ℕ). Front IsValue (c ∷ s) p) h (w.0, is, w.3)
            ]
          ]
        ]
      ]
    ]

module _ (schema : List Field) where
  -- what is read after a bare word is in the grammar
  read_is_after : (s t : List ℕ) (y : Meaning × List ℕ) (w : List ℕ) → IsBare w → s ≡ w ++ t → after_bare schema (encode_utf8_all w) t ≡ Some y →
      Front (IsUnit schema) s y
  unfolding after_bare
  read_is_after s [] y w b p e =
      let h : ◌≡◌ {A = Meaning × List ℕ} (literal_anywhere schema (encode_utf8_all w), []) y = same_Some _ _ e in
      subst (λ (p : Meaning × List ℕ). Front (IsUnit schema) s p) h (w, Grammar.bare b, p)
  read_is_after s (c ∷ t) y w b p e =
      elim (chosen (c == 58) _ _ _ e) [
        | inl q ↦
            let k : c ≡ 58 = eqb-true c 58 q.0 in
            let x = and_then_some (value_of t) (λ v. Some (field_meaning schema (encode_utf8_all w) v.0, v.1)) y q.1 in
            let h : ◌≡◌ {A = Meaning × List ℕ} (field_meaning schema (encode_utf8_all w) x.0.0, x.0.1) y = same_Some _ _ x.2 in
            let v = read_is_value t x.0 x.1 in
            let tail : c ∷ t ≡ 58 ∷ (v.0 ++ x.0.1) = rw k (ap (λ (u : List ℕ). 58 ∷ u) v.2) in
            let parts : s ≡ (w ++ (58 ∷ v.0)) ++ x.0.1 = p ∙ ap (λ (u : List ℕ). w ++ u) tail ∙ simp append_assoc in
            subst (λ (p : Meaning × List ℕ). Front (IsUnit schema) s p) h (w ++ (58 ∷ v.0), Grammar.field w v.0 b v.1, parts)
        | inr q ↦
            let h : ◌≡◌ {A = Meaning × List ℕ} (literal_anywhere schema (encode_utf8_all w), c ∷ t) y = same_Some _ _ q.1 in
            subst (λ (p : Meaning × List ℕ). Front (IsUnit schema) s p) h (w, Grammar.bare b, p)
      ]

  -- the word at the front is bare
  word_is_bare : (c : ℕ) (s : List ℕ) → (is_word_char c && not (begins_modifier c) && not (is_reserved (word (c ∷ s)))) ≡ true →
      is_bare (take_while is_word_char (c ∷ s)) ≡ true
  unfolding is_bare
  word_is_bare c s h =
      let p = and_parts (is_word_char c && not (begins_modifier c)) (not (is_reserved (word (c ∷ s)))) h in
      let q = and_parts (is_word_char c) (not (begins_modifier c)) p.0 in
      let a : is_word_char c ≡ true = q.0 in
      let e : take_while is_word_char (c ∷ s) ≡ c ∷ take_while is_word_char s = take_while_more is_word_char c s a in
      let r : not (is_reserved (take_while is_word_char (c ∷ s))) ≡ true = ap not (sym (is_reserved-encoded (take_while is_word_char (c ∷ s)))) ∙ p.1 in
      let n : not (is_reserved (c ∷ take_while is_word_char s)) ≡ true = subst (λ (x : List ℕ). not (is_reserved x) ≡ true) e r in
      let k : not (begins_modifier c) ≡ true = q.1 in
      subst (λ (x : List ℕ). is_bare x ≡ true) (sym e) (rw (k, n) refl)

  -- a bare word that is read is in the grammar
  read_is_bare : FindsOnly (IsUnit schema) (bare_of schema)
  unfolding bare_of
  read_is_bare [] y e = absurd cc
  read_is_bare (c ∷ s) y e =
      elim (chosen (is_word_char c && not (begins_modifier c) && not (is_reserved (word (c ∷ s)))) _ _ _ e) [
        | inl p ↦ read_is_after (c ∷ s) (skip_while is_word_char (c ∷ s)) y (take_while is_word_char (c ∷ s)) ((word_parts (c ∷ s)).1, word_is_bare c s p.0)
            (word_parts (c ∷ s)).0 p.1
        | inr p ↦ absurd (let k = p.1 in cc)
      ]

  -- a group that is read is in the grammar
  read_is_group : (s : List ℕ) (x : Meaning × List ℕ) (y : Meaning × List ℕ) → FrontMeaning schema (skip_while is_space s) x →
      close x.0 (skip_while is_space x.1) ≡ Some y → Front (IsUnit schema) (40 ∷ s) y
  read_is_group s x y f e =
      let k = close_some x.0 (skip_while is_space x.1) y e in
      let v = skip_while_parts s in
      let w = skip_while_parts x.1 in
      let parts : 40 ∷ s ≡ (40 ∷ (v.0 ++ (f.0 ++ (w.0 ++ 41 ∷ [])))) ++ y.1 =
      ap (λ (t : List ℕ). 40 ∷ t) (v.2 ∙ ap (λ (t : List ℕ). v.0 ++ t) (f.4 ∙ ap (λ (t : List ℕ). f.0 ++ t) (w.2 ∙ ap (λ (t : List ℕ). w.0 ++ t) k.0))
      ∙ simp append_assoc) in
      let m : list_meaning f.1 ≡ y.0 = f.3 ∙ k.1 in
      let text : List ℕ = 40 ∷ (v.0 ++ (f.0 ++ (w.0 ++ 41 ∷ []))) in
      let h : IsUnit schema text y.0 = subst (λ (z : Meaning). IsUnit schema text z) m (Grammar.group v.0 f.0 w.0 f.1 v.1 f.2 w.1) in
      (text, h, parts)

  -- a unit that is read is in the grammar
  pub read_is_unit : (d : ℕ) → FindsOnly (IsUnit schema) (unit_of schema d)
  unfolding unit_of unit_by quoted_literal_of group_of
  read_is_unit zero s y e = absurd cc
  read_is_unit (suc d) [] y e = absurd cc
  read_is_unit (suc d) (c ∷ s) y e =
      elim (chosen (c == 40) _ _ _ e) [
        | inl p ↦
            let k : c ≡ 40 = eqb-true c 40 p.0 in
            let b = and_then_some (meaning_of (unit_of schema d) (skip_while is_space s)) (λ x. close x.0 (skip_while is_space x.1)) y p.1 in
            rw k (read_is_group s b.0 y (read_is_meaning schema (unit_of schema d) (read_is_unit d) (skip_while is_space s) b.0 b.1) b.2)
        | inr m ↦ elim (chosen (c == 42) _ _ _ m.1) [
          | inl p ↦
              let k : c ≡ 42 = eqb-true c 42 p.0 in
              let h : ◌≡◌ {A = Meaning × List ℕ} (Ok every, s) y = same_Some _ _ p.1 in
              subst (λ (p : Meaning × List ℕ). Front (IsUnit schema) (c ∷ s) p) h (42 ∷ [], Grammar.all, rw k refl)
          | inr l ↦ elim (chosen (c == 34) _ _ _ l.1) [
            | inl p ↦
                let k : c ≡ 34 = eqb-true c 34 p.0 in
                let b = and_then_some (quoted_of s) (λ x. Some (literal_anywhere schema x.0, x.1)) y p.1 in
                let h : ◌≡◌ {A = Meaning × List ℕ} (literal_anywhere schema b.0.0, b.0.1) y = same_Some _ _ b.2 in
                let t = read_is_quoted s b.0 b.1 in
                let is : IsUnit schema (34 ∷ quoted_text t.0) (literal_anywhere schema b.0.0) =
                subst (λ (z : List ℕ). IsUnit schema (34 ∷ quoted_text t.0) (literal_anywhere schema z)) t.1 (Grammar.quoted t.0) in
                subst (λ (p : Meaning × List ℕ). Front (IsUnit schema) (c ∷ s) p) h (34 ∷ quoted_text t.0, is, rw k (ap (λ (x : List ℕ). 34 ∷ x) t.2))
            | inr p ↦ read_is_bare (c ∷ s) y p.1
          ]
        ]
      ]

  -- a text that is read whole has no rest
  ended_some : (n : Meaning) (s : List ℕ) (m : Meaning) → ended n s ≡ Some m → (s ≡ []) × (m ≡ n)
  ended_some n [] m e = (refl, sym (same_Some _ _ e))
  ended_some n (c ∷ s) m e = absurd cc

  -- a query that is read is in the grammar
  pub read_is_query : (d : ℕ) (s : List ℕ) (m : Meaning) → query_of schema d s ≡ Some m → IsQuery schema s m
  unfolding query_of
  read_is_query d s m e =
      let b = and_then_some (meaning_of (unit_of schema d) (skip_while is_space s)) (λ x. ended x.0 (skip_while is_space x.1)) m e in
      let f = read_is_meaning schema (unit_of schema d) (read_is_unit d) (skip_while is_space s) b.0 b.1 in
      let k = ended_some b.0.0 (skip_while is_space b.0.1) m b.2 in
      let v = skip_while_parts s in
      let w = skip_while_parts b.0.1 in
      record {
        before = v.0;
        inner = f.0;
        after = w.0;
        disjunctions = f.1;
        parts = v.2 ∙ ap (λ (t : List ℕ). v.0 ++ t) (f.4 ∙ ap (λ (t : List ℕ). f.0 ++ t) (w.2 ∙ ap (λ (t : List ℕ). w.0 ++ t) k.0 ∙ simp append-nil));
        blank_before = v.1;
        list = f.2;
        blank_after = w.1;
        means = k.1 ∙ sym f.3;
      }
