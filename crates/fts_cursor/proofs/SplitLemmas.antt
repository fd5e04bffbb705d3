-- Lists some of which have bits: what is told, and what is opened.
use Rattle.std.proofs.Common.{◌≡◌, ◌≢◌, ℕ, ◌+◌, ◌-◌, ◌*◌, ◌<◌, ◌≤◌, Bool, true, false, ◌&&◌, ◌||◌, List, [], ◌∷◌, ◌++◌, length, map, take, get_or, refl}
use Rattle.std.proofs.Common.{sym, ap, ap₂, ◌∙◌, inl, inr, arith}
use Rattle.std.specs.Prelude.{Option, Result, Ok, Err, IfOk, All}
use Rattle.std.specs.Borrow.{Bor}
use Rattle.std.specs.List.{filter, range_with_len}
use Rattle.std.proofs.lemmas.Bool.{and_parts, cases_lt}
use Rattle.std.proofs.lemmas.List.{length-append, get_or_past, map-append, take_more}
use Rattle.std.proofs.lemmas.List.Folds.{list_all-append, list_any_none}
use Rattle.fts_pack.specs.Documents.{Rises, block_count}
use Rattle.fts_postings.specs.Bounds.{Bound, most_at, reached}
use Rattle.fts_postings.specs.Conjoined.{Conjoined, bound_of, common_of, counts_of}
use Rattle.fts_postings.specs.Sets.{common, has, in_all}
use Rattle.fts_postings.proofs.PassingLemmas.{Rises-passing}
use Rattle.fts_postings.proofs.SetLemmas.{Rises-filter}
use Rattle.fts_sets.specs.declared.leaf.Leaf.{Leaf}
use Rattle.fts_sets.specs.Leaves.{all_have, in_each, in_one, one_has}
use Rattle.fts_cursor.specs.Hits.{is_live}
use Rattle.fts_cursor.specs.Splits.{FindsAll, IsSplit, bound_over}
use Rattle.fts_cursor.specs.Standing.{Standing, at_most}
use Rattle.std.proofs.lemmas.List.{length-map}
use Rattle.fts_model.specs.declared.query.Query.{Query}
use Rattle.fts_segment.specs.Segments.{SegmentValue}
use Rattle.fts_cursor.specs.Leading.{IsLed}
use Rattle.fts_cursor.specs.Openings.{bound_of_all}
use Rattle.fts_postings.proofs.SetLemmas.{is_itself}
use Rattle.fts_cursor.proofs.HitsLemmas.{hits_of}
use Rattle.std.proofs.Math.Bool.{and_assoc}
use Rattle.fts_sets.proofs.SetLemmas.{has-filter, has-passing, has-range, past-range, same_members}
use Rattle.fts_cursor.proofs.LeadingLemmas.{IsConjoinedOver, all_hits, led_hits}

and_in : (a b c : Bool) → ((a && b) && (c && true)) ≡ ((a && (c && true)) && b)
and_in true true true = refl
and_in true true false = refl
and_in true false true = refl
and_in true false false = refl
and_in false b c = refl

and_behind : (a b c : Bool) → ((a && b) && (c && true)) ≡ (a && (b && (c && true)))
and_behind true b c = refl
and_behind false b c = refl

in_all-more : (lists : List (List ℕ)) (x : List ℕ) (d : ℕ) → in_all (lists ++ x ∷ []) d ≡ (in_all lists d && (has x d && true))
in_all-more lists x d = list_all-append (λ documents. has documents d) lists (x ∷ [])

in_each-more : (bits : List (Bor (List Bool))) (b : Bor (List Bool)) (d : ℕ) → in_each (bits ++ b ∷ []) d ≡ (in_each bits d && (is_live b.now d && true))
in_each-more bits b d = list_all-append (λ (c : Bor (List Bool)). is_live c.now d) bits (b ∷ [])

some_there : (xs : List ℕ) (d : ℕ) → has xs d ≡ true → 0 < length xs
some_there [] d h = (let e : false ≡ true = h in absurd (cc))
some_there (x ∷ xs) d h = omega arith

-- one list more, with bits
pub IsSplit-told : (lists : List (List ℕ)) (bits : List (Bor (List Bool))) (rest : List (List ℕ)) (opened : ℕ) (x : List ℕ) (b : Bor (List Bool))
    (one after : ℕ) → IsSplit lists bits rest opened → ((d : ℕ) → is_live b.now d ≡ has x d) →
    one ≤ 1 → (0 < length x → one ≡ 1) → after ≡ opened + one → IsSplit (lists ++ x ∷ []) (bits ++ b ∷ []) rest after
IsSplit-told lists bits rest opened x b one after h tells few enters sum = record {
  same = λ d.
      in_all-more lists x d ∙ ap (λ a. a && (has x d && true)) (h.same d) ∙ and_in (in_each bits d) (in_all rest d) (has x d)
      ∙ ap (λ c. (in_each bits d && (c && true)) && in_all rest d) (sym (tells d)) ∙ ap (λ a. a && in_all rest d) (sym (in_each-more bits b d));
  count = omega (arith, h.count, length-append lists (x ∷ []), length-append bits (b ∷ []));
  few = omega (arith, h.few, few, sum, length-append bits (b ∷ []));
  enters = λ d at.
      let both = and_parts (in_all lists d) (has x d && true) (sym (in_all-more lists x d) ∙ at) in
      let last = and_parts (has x d) true both.1 in
      omega (arith, h.enters d both.0, enters (some_there x d last.0), sum, length-append bits (b ∷ []));
}

-- and without
pub IsSplit-rest : (lists : List (List ℕ)) (bits : List (Bor (List Bool))) (rest : List (List ℕ)) (opened : ℕ) (x : List ℕ) → IsSplit lists bits rest opened →
    IsSplit (lists ++ x ∷ []) bits (rest ++ x ∷ []) opened
IsSplit-rest lists bits rest opened x h = record {
  same = λ d. in_all-more lists x d ∙ ap (λ a. a && (has x d && true)) (h.same d) ∙ and_behind (in_each bits d) (in_all rest d) (has x d)
      ∙ ap (λ c. in_each bits d && c) (sym (in_all-more rest x d));
  count = omega (arith, h.count, length-append lists (x ∷ []), length-append rest (x ∷ []));
  few = h.few;
  enters = λ d at. h.enters d (and_parts (in_all lists d) (has x d && true) (sym (in_all-more lists x d) ∙ at)).0;
}

-- a conjunction finds all
pub FindsAll-conjoined : (shortest : List ℕ) (others : List (List ℕ)) (c : Conjoined) (t : Standing) → IsConjoinedOver shortest others c →
    t.remaining ≡ common_of c → t.openings ≡ counts_of c → ((doc : Option ℕ) → most_at t.bound doc ≡ most_at (bound_of c) doc) → FindsAll shortest others t
FindsAll-conjoined shortest others c t h remaining openings bound = record {
  remaining = remaining ∙ h.remaining;
  bound = λ doc. omega (arith, bound doc, ap (λ (b : Bound). most_at b doc) h.bound);
  opened = λ d first at. omega (arith, openings, h.opened d first at);
}

-- by words: all lists have bits
module _ (shortest : List ℕ) (lists : List (List ℕ)) (first : Bor (List Bool)) (bits : List (Bor (List Bool))) (leaves : List Leaf) (opened one : ℕ)
    (rises : Rises 0 shortest) (tells : (d : ℕ) → is_live first.now d ≡ has shortest d) (split : IsSplit lists bits [] opened)
    (each : (d : ℕ) → all_have leaves d ≡ in_each bits d) where
  abbrev pub told : List ℕ
  told = filter (all_have leaves) (filter (is_live first.now) (range_with_len 0 (length first.now)))

  told_at : (d : ℕ) → (is_live first.now d && all_have leaves d) ≡ (has shortest d && in_all lists d)
  told_at d =
      let alone : (b : Bool) → b ≡ (b && true) = elim [ true ↦ refl | false ↦ refl ] in
      ap₂ (λ a b. a && b) (tells d) (each d ∙ alone (in_each bits d) ∙ sym (split.same d))

  pub told_all : told ≡ common shortest lists
  told_all =
      let n = length first.now in
      let range = range_with_len 0 n in
      same_members 0 told (common shortest lists) (Rises-filter 0 (all_have leaves) (filter (is_live first.now) range) (Rises-passing (is_live first.now) 0 n))
      (Rises-filter 0 (in_all lists) shortest rises)
      (λ d. has-filter (all_have leaves) (filter (is_live first.now) range) d ∙ ap (λ a. a && all_have leaves d) (has-filter (is_live first.now) range d)
      ∙ and_assoc (has range d) (is_live first.now d) (all_have leaves d) ∙ ap (λ b. has range d && b) (told_at d) ∙ (elim (cases_lt d n) [
        | inl inside ↦ ap (λ b. b && (has shortest d && in_all lists d)) (has-range 0 n d (omega arith) (omega (arith, inside)))
        | inr past ↦ (
            let gone : is_live first.now d ≡ false = get_or_past first.now d false past in
            ap (λ b. b && (has shortest d && in_all lists d)) (past-range 0 n d (omega (arith, past))) ∙ sym (ap (λ a. a && in_all lists d) (sym (tells d) ∙ gone))
            )
      ]) ∙ sym (has-filter (in_all lists) shortest d))

  pub FindsAll-told : (t : Standing) (sum : ℕ) → one ≤ block_count (length shortest) → (0 < length shortest → one ≡ 1) → sum ≡ opened + one →
      t.remaining ≡ told → t.openings ≡ sum → t.bound ≡ at_most sum → FindsAll shortest lists t
  FindsAll-told t sum few enters is remaining openings bound = record {
    remaining = remaining ∙ told_all;
    bound = λ doc.
        let r = reached shortest doc in
        let most : most_at t.bound doc ≡ sum = ap (λ (b : Bound). most_at b doc) bound ∙ omega arith in
        let all : length lists ≤ length lists * (r + 1) = omega arith in
        omega (arith, most, is, few, split.few, split.count, all);
    opened = λ d in_first at. omega (arith, openings, is, enters (some_there shortest d in_first), split.enters d at, split.count);
  }

-- cut by bits: some of the lists have bits
module _ (shortest : List ℕ) (lists : List (List ℕ)) (bits : List (Bor (List Bool))) (rest : List (List ℕ)) (opened : ℕ) (rises : Rises 0 shortest)
    (split : IsSplit lists bits rest opened) where
  and_swap : (a b c : Bool) → ((a && b) && c) ≡ (a && (c && b))
  and_swap true true true = refl
  and_swap true true false = refl
  and_swap true false true = refl
  and_swap true false false = refl
  and_swap false b c = refl

  pub cut_all : filter (in_each bits) (common shortest rest) ≡ common shortest lists
  cut_all =
      same_members 0 (filter (in_each bits) (common shortest rest)) (common shortest lists) (Rises-filter 0 (in_each bits) (common shortest rest)
      (Rises-filter 0 (in_all rest) shortest rises)) (Rises-filter 0 (in_all lists) shortest rises)
      (λ d. has-filter (in_each bits) (common shortest rest) d ∙ ap (λ a. a && in_each bits d) (has-filter (in_all rest) shortest d) ∙ and_swap (has shortest d)
      (in_all rest d) (in_each bits d)
      ∙ ap (λ b. has shortest d && b) (sym (split.same d)) ∙ sym (has-filter (in_all lists) shortest d))

  pub FindsAll-cut : (c : Conjoined) (t : Standing) → IsConjoinedOver shortest rest c → t.remaining ≡ filter (in_each bits) (common_of c) →
      counts_of c + opened ≤ t.openings → ((doc : Option ℕ) → most_at t.bound doc ≡ most_at (bound_of c) doc + opened) → FindsAll shortest lists t
  FindsAll-cut c t h remaining openings bound = record {
    remaining = remaining ∙ ap (filter (in_each bits)) h.remaining ∙ cut_all;
    bound = λ doc.
        let r = reached shortest doc in
        let most : most_at (bound_of c) doc ≡ most_at (bound_over shortest (length rest)) doc = ap (λ (b : Bound). most_at b doc) h.bound in
        let e : length lists * (r + 1) ≡ (length bits + length rest) * (r + 1) = ap (λ n. n * (r + 1)) split.count in
        let all : length bits ≤ length bits * (r + 1) = omega arith in
        omega (arith, bound doc, most, e, all, split.few);
    opened = λ d in_first at.
        let both = and_parts (in_each bits d) (in_all rest d) (sym (split.same d) ∙ at) in
        omega (arith, openings, h.opened d in_first both.1, split.enters d at, split.count);
  }

first_in : (xs : List ℕ) → xs ≢ [] → (d : ℕ) × (has xs d ≡ true)
first_in [] some = absurd (some refl)
first_in (x ∷ xs) some = (x, ap (λ b. b || has xs x) (is_itself x))

-- a cursor finds what the lists of some queries have in common
pub record FindsHits (segment : SegmentValue) (queries : List Query) (t : Standing) : Type 0 where
  pub hits : t.remaining ≡ all_hits segment queries
  pub bound : (doc : Option ℕ) → most_at t.bound doc ≤ most_at (bound_of_all (map (hits_of segment) queries)) doc
  pub opened : t.remaining ≢ [] → length queries ≤ t.openings

pub FindsHits-led : (segment : SegmentValue) (queries : List Query) (shortest : List ℕ) (others : List (List ℕ)) (t : Standing) →
    IsLed (map (hits_of segment) queries) shortest others → FindsAll shortest others t → FindsHits segment queries t
FindsHits-led segment queries shortest others t led h =
    let lists = map (hits_of segment) queries in
    let many : length lists ≡ length queries = length-map queries (hits_of segment) in
    record {
      hits = h.remaining ∙ led_hits segment queries shortest others led;
      bound = λ doc.
          let less : length others ≡ length lists - 1 = omega (arith, led.count) in
          let same : bound_over shortest (length others) ≡ bound_of_all lists = ap₂ bound_over (sym led.least) less in
          omega (arith, h.bound doc, ap (λ (b : Bound). most_at b doc) same);
      opened = λ some.
          let found = first_in t.remaining some in
          let both = and_parts (has shortest found.0) (in_all others found.0) (sym (has-filter (in_all others) shortest found.0) ∙ ap (λ xs. has xs found.0)
          (sym h.remaining) ∙ found.1) in
          omega (arith, many, led.count, h.opened found.0 both.0 both.1);
    }

-- what is known of a value that was made
pub all_three : {X Y : Type 0} (r : Result X Y) (P Q R S : X → Type 0) → ((x : X) → P x → Q x → R x → S x) → IfOk r P → IfOk r Q → IfOk r R → IfOk r S
all_three (Ok x) P Q R S f p q r = f x p q r
all_three (Err e) P Q R S f p q r = tt

pub both_of : {X Y : Type 0} (r : Result X Y) (P Q R : X → Type 0) → ((x : X) → P x → Q x → R x) → IfOk r P → IfOk r Q → IfOk r R
both_of (Ok x) P Q R f p q = f x p q
both_of (Err e) P Q R f p q = tt

pub told_has : (bits : List (Bor (List Bool))) (leaves : List Leaf) (docs : ℕ) → All (λ b. length b.now ≤ docs) bits →
    ((d : ℕ) → one_has leaves d ≡ in_one bits d) → (d : ℕ) → has (filter (one_has leaves) (range_with_len 0 docs)) d ≡ in_one bits d
told_has bits leaves docs long one d =
    has-passing (one_has leaves) docs d (λ past. one d ∙ list_any_none (λ (b : Bor (List Bool)). is_live b.now d) bits
    (λ k b low. get_or_past (get_or bits k b).now d false (let e = long k b low in omega (arith, e, past)))) ∙ one d

pub hits_more : (segment : SegmentValue) (queries : List Query) (i : ℕ) (q : Query) → i < length queries → q ≡ get_or queries i q →
    map (hits_of segment) (take i queries) ++ hits_of segment q ∷ [] ≡ map (hits_of segment) (take (i + 1) queries)
hits_more segment queries i q inside is =
    ap (λ (p : Query). map (hits_of segment) (take i queries) ++ hits_of segment p ∷ []) is
    ∙ sym (map-append (hits_of segment) (take i queries) (get_or queries i q ∷ [])) ∙ ap (map (hits_of segment)) (sym (take_more queries i q inside))

-- the bits of no document are set past the first's
pub first_gone : (bs : List (Bor (List Bool))) (b : Bor (List Bool)) (d : ℕ) → b ≡ get_or bs 0 b → 0 < length bs → length b.now ≤ d → in_each bs d ≡ false
first_gone [] b d same there past = absurd (omega (arith, there))
first_gone (x ∷ bs) b d same there past =
    ap (λ c. c && in_each bs d) (ap (λ (c : Bor (List Bool)). is_live c.now d) (sym same) ∙ get_or_past b.now d false past)
