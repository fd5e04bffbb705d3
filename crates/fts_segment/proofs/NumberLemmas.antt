-- The numbers of a field.
use Rattle.std.proofs.Common.{◌≡◌, ◌+◌, ◌*◌, ◌<◌, ◌≤◌, ◌==◌, ℕ, suc, Bool, true, false, cond, List, [], ◌∷◌, ◌++◌, ◌⊎◌, map, filter, length, Option, Some, None, refl}
use Rattle.std.proofs.Common.{sym, ap, ◌∙◌, inl, inr, arith, All, Contains, append-nil, get_or}
use Rattle.std.specs.List.{AllPairs}
use Rattle.std.specs.List.Sorted.{IsNonDecreasingBy, IsPermutation, IsSorted, IsStrictlyIncreasing}
use Rattle.std.specs.Ordering.{is_lt, nat_cmp, ordering_then}
use Rattle.std.proofs.lemmas.Bool.{cases_eq, cases_lt, cases_order, false≢true}
use Rattle.std.proofs.lemmas.Bool.Decides.{nat_tests}
use Rattle.std.proofs.lemmas.Option.{slice_get_within, slice_get-get_or, get_or_from_slice_get}
use Rattle.std.proofs.lemmas.List.{length-append, length-map, map-append, map_push, length_push, get_or-map, get_or_append_left, get_or_push}
use Rattle.std.proofs.lemmas.List.Elements.{filter-append, All-nil, All-push, All-tail, All-head, All-weaker, All-contains, Contains-push, Contains-append_left, Contains-get_or}
use Rattle.std.proofs.lemmas.List.Kept.{AllPairs-filter, AllPairs-from_increasing}
use Rattle.std.proofs.lemmas.List.Sorted.{Contains-permutation, IsNonDecreasingBy-from_sort, IsPermutation-sym}
use Rattle.std.proofs.lemmas.Map.Keys.{IsDistinct-IsPermutation, IsDistinct-from_apart, apart_from_distinct}
use Rattle.std.proofs.lemmas.Map.Made.{Contains-from_values_of, Contains-values_of}
use Rattle.fts_model.proofs.Lists.{Contains-filter, Contains-from_filter, one_order}
use Rattle.fts_segment.specs.Segments.{numbers_where}
use Rattle.fts_segment.specs.Numbers.{is_number, IsNumberIndex}
use Rattle.fts_segment.proofs.HoldingLemmas.{numbers_where-push, numbers_where-holds}
use Rattle.fts_segment.proofs.FieldLemmas.{is_number-is}
use Rattle.fts_segment.proofs.BetweenLemmas.{numbers_where-at}
use Rattle.fts_segment.specs.NumberPairs.{docs_of_number, begins_with, AreGroups}

pub docs_of_number-append : (x : ℕ) (ps qs : List (ℕ × ℕ)) → docs_of_number x (ps ++ qs) ≡ docs_of_number x ps ++ docs_of_number x qs
docs_of_number-append x ps qs =
    ap (map (λ (p : ℕ × ℕ). p.1)) (filter-append (λ (p : ℕ × ℕ). p.0 == x) ps qs)
    ∙ map-append (λ (p : ℕ × ℕ). p.1) (filter (λ p. p.0 == x) ps) (filter (λ p. p.0 == x) qs)

pub docs_of_number-cons : (x : ℕ) (p : ℕ × ℕ) (ps : List (ℕ × ℕ)) → docs_of_number x (p ∷ ps) ≡ cond (p.0 == x) (p.1 ∷ docs_of_number x ps) (docs_of_number x ps)
docs_of_number-cons x p ps = elim (p.0 == x) as (λ b. map (λ (p : ℕ × ℕ). p.1) (cond b (p ∷ filter (λ p. p.0 == x) ps) (filter (λ p. p.0 == x) ps))
    ≡ cond b (p.1 ∷ docs_of_number x ps) (docs_of_number x ps)) [ true ↦ refl | false ↦ refl ]

pub docs_of_number-push : (x : ℕ) (ps : List (ℕ × ℕ)) (p : ℕ × ℕ) →
    docs_of_number x (ps ++ p ∷ []) ≡ docs_of_number x ps ++ cond (p.0 == x) (p.1 ∷ []) []
docs_of_number-push x ps p = docs_of_number-append x ps (p ∷ []) ∙ ap (λ ds. docs_of_number x ps ++ ds) (docs_of_number-cons x p [])

docs_of_number-none : (x : ℕ) (ps : List (ℕ × ℕ)) → All (λ p. x < p.0) ps → docs_of_number x ps ≡ []
docs_of_number-none x [] above = refl
docs_of_number-none x (p ∷ ps) above =
    let here : x < p.0 = All-head (λ (p : ℕ × ℕ). x < p.0) p ps above in
    docs_of_number-cons x p ps ∙ ap (λ b. cond b (p.1 ∷ docs_of_number x ps) (docs_of_number x ps)) (let other : (p.0 == x) ≡ false = grind (arith, nat_tests) in other)
    ∙ docs_of_number-none x ps (All-tail (λ (p : ℕ × ℕ). x < p.0) p ps above)

-- a number that begins other pairs is greater, and so are those after it
above : (x d : ℕ) (ps : List (ℕ × ℕ)) → IsNonDecreasingBy (λ p. p.0) ((x, d) ∷ ps) → begins_with x ps ≡ false → All (λ p. x < p.0) ps
above x d [] up other k e within = absurd (omega arith)
above x d (p ∷ ps) up other k e within =
    let first : x ≤ p.0 = up 0 1 e (omega arith) (omega (arith, within)) in
    let rest : p.0 ≤ (get_or (p ∷ ps) k e).0 = up 1 (suc k) e (omega arith) (omega (arith, within)) in
    elim (cases_eq p.0 x) [
      | inl same ↦ absurd (false≢true (sym other ∙ (let is : (p.0 == x) ≡ true = grind (arith, nat_tests) in is)))
      | inr differ ↦ let apart : p.0 ≡ x → ⊥ = differ in omega (arith, first, rest, apart)
    ]

rises_push : (xs : List ℕ) (x : ℕ) → IsStrictlyIncreasing xs → All (λ n. n < x) xs → IsStrictlyIncreasing (xs ++ x ∷ [])
rises_push xs x up below k within =
    elim (cases_lt (k + 1) (length xs)) [
      | inl inside ↦ rw (get_or_append_left xs (x ∷ []) 0 k (omega arith)) (rw (get_or_append_left xs (x ∷ []) 0 (k + 1) inside) (up k inside))
      | inr last ↦
          let end : length xs ≡ k + 1 = omega (arith, within, length_push xs x) in
          rw (get_or_append_left xs (x ∷ []) 0 k (omega arith)) (rw (get_or_push xs x 0 (k + 1) end) (below k 0 (omega arith)))
    ]

-- The numbers and lists of the pairs so far, `done`, and the documents of the number that the rest begins with, which are no list yet.
pub record AreGrouped (all done rest : List (ℕ × ℕ)) (numbers : List ℕ) (lists : List (List ℕ)) (docs : List ℕ) : Type 0 where
  pub rises : IsStrictlyIncreasing numbers
  pub below : All (λ n. All (λ p. n < p.0) rest) numbers
  pub listed : lists ≡ map (λ x. docs_of_number x all) numbers
  pub begun : (x : ℕ) → begins_with x rest ≡ true → docs ≡ docs_of_number x done
  pub occur : All (λ x. 0 < length (docs_of_number x all)) numbers
  pub whole : (x : ℕ) → 0 < length (docs_of_number x done) → Contains numbers x ⊎ (begins_with x rest ≡ true)

pub AreGrouped-none : (all : List (ℕ × ℕ)) (numbers : List ℕ) (lists : List (List ℕ)) (docs : List ℕ) → numbers ≡ [] → lists ≡ [] → docs ≡ [] →
    AreGrouped all [] all numbers lists docs
AreGrouped-none all numbers lists docs n l d = rw n (rw l (rw d (record {
  rises = λ k within. absurd (omega arith);
  below = All-nil (λ (n : ℕ). All (λ (p : ℕ × ℕ). n < p.0) all);
  listed = refl;
  begun = λ x begins. refl;
  occur = All-nil (λ (x : ℕ). 0 < length (docs_of_number x all));
  whole = λ x some. absurd (omega (arith, some));
})))

-- the next pair is one of the number that the rest begins with
same_number : (x y : ℕ) (rest : List (ℕ × ℕ)) → begins_with x rest ≡ true → begins_with y rest ≡ true → x ≡ y
same_number x y [] at_x at_y = absurd (false≢true at_x)
same_number x y (p ∷ rest) at_x at_y = elim (cases_eq p.0 x) [
  | inl is ↦ elim (cases_eq p.0 y) [
    | inl same ↦ sym is ∙ same
    | inr other ↦ absurd (false≢true (sym (let is_not : (p.0 == y) ≡ false = grind (arith, nat_tests) in is_not) ∙ at_y))
  ]
  | inr other ↦ absurd (false≢true (sym (let is_not : (p.0 == x) ≡ false = grind (arith, nat_tests) in is_not) ∙ at_x))
]

-- a number with documents among the pairs and one more has that pair, or documents among the others
has_docs : (x : ℕ) (done : List (ℕ × ℕ)) (p : ℕ × ℕ) → 0 < length (docs_of_number x (done ++ p ∷ [])) → ◌⊎◌ (p.0 ≡ x) ((p.0 ≡ x → ⊥) × (0 < length (docs_of_number x done)))
has_docs x done p some = elim (cases_eq p.0 x) [
  | inl same ↦ inl same
  | inr other ↦
      let is_not : (p.0 == x) ≡ false = grind (arith, nat_tests) in
      let same = docs_of_number-push x done p ∙ ap (λ b. docs_of_number x done ++ cond b (p.1 ∷ []) []) is_not ∙ append-nil (docs_of_number x done) in
      inr (other, omega (arith, some, ap length same))
]

push_own : (done : List (ℕ × ℕ)) (p : ℕ × ℕ) → docs_of_number p.0 (done ++ p ∷ []) ≡ docs_of_number p.0 done ++ p.1 ∷ []
push_own done p = docs_of_number-push p.0 done p ∙ ap (λ b. docs_of_number p.0 done ++ cond b (p.1 ∷ []) []) (let is : (p.0 == p.0) ≡ true = grind (arith, nat_tests) in is)

own_begins : (p : ℕ × ℕ) (rest : List (ℕ × ℕ)) → begins_with p.0 (p ∷ rest) ≡ true
own_begins p rest = let is : (p.0 == p.0) ≡ true = grind (arith, nat_tests) in is

-- the documents of the number of the last pair
pub ended_docs : (all done rest : List (ℕ × ℕ)) (p : ℕ × ℕ) {numbers : List ℕ} {lists : List (List ℕ)} {docs : List ℕ} → done ++ p ∷ rest ≡ all →
    IsNonDecreasingBy (λ p. p.0) (p ∷ rest) → begins_with p.0 rest ≡ false → AreGrouped all done (p ∷ rest) numbers lists docs →
    docs ++ p.1 ∷ [] ≡ docs_of_number p.0 all
ended_docs all done rest p parts up ends s =
    ap (λ ds. ds ++ p.1 ∷ []) (s.begun p.0 (own_begins p rest))
    ∙ ap (λ ds. docs_of_number p.0 done ++ ds) (sym (docs_of_number-cons p.0 p rest ∙ ap (λ b. cond b (p.1 ∷ docs_of_number p.0 rest) (docs_of_number p.0 rest)) (own_begins p rest)
    ∙ ap (λ ds. p.1 ∷ ds) (docs_of_number-none p.0 rest (above p.0 p.1 rest up ends))))
    ∙ sym (docs_of_number-append p.0 done (p ∷ rest)) ∙ ap (docs_of_number p.0) parts

-- more pairs of the same number follow
pub AreGrouped-within : (all done rest : List (ℕ × ℕ)) (p : ℕ × ℕ) {numbers : List ℕ} {lists : List (List ℕ)} {docs : List ℕ} →
    begins_with p.0 rest ≡ true → AreGrouped all done (p ∷ rest) numbers lists docs → AreGrouped all (done ++ p ∷ []) rest numbers lists (docs ++ p.1 ∷ [])
AreGrouped-within all done rest p {numbers} {lists} {docs} begins s = record {
  rises = s.rises;
  below = All-weaker (λ (n : ℕ). All (λ (q : ℕ × ℕ). n < q.0) (p ∷ rest)) (λ (n : ℕ). All (λ (q : ℕ × ℕ). n < q.0) rest)
      (λ n under. All-tail (λ (q : ℕ × ℕ). n < q.0) p rest under) numbers s.below;
  listed = s.listed;
  begun = λ x is. rw (same_number x p.0 rest is begins) (ap (λ ds. ds ++ p.1 ∷ []) (s.begun p.0 (own_begins p rest)) ∙ sym (push_own done p));
  occur = s.occur;
  whole = λ x some. elim (has_docs x done p some) [
    | inl same ↦ inr (rw (sym same) begins)
    | inr earlier ↦ elim (s.whole x earlier.1) [
      | inl there ↦ inl there
      | inr is ↦ inr (rw (sym (same_number p.0 x (p ∷ rest) (own_begins p rest) is)) begins)
    ]
  ];
}

-- no pair of the same number follows
pub AreGrouped-ended : (all done rest : List (ℕ × ℕ)) (p : ℕ × ℕ) {numbers : List ℕ} {lists : List (List ℕ)} {docs : List ℕ} → done ++ p ∷ rest ≡ all →
    IsNonDecreasingBy (λ p. p.0) (p ∷ rest) → begins_with p.0 rest ≡ false → AreGrouped all done (p ∷ rest) numbers lists docs →
    AreGrouped all (done ++ p ∷ []) rest (numbers ++ p.0 ∷ []) (lists ++ (docs ++ p.1 ∷ []) ∷ []) []
AreGrouped-ended all done rest p {numbers} {lists} {docs} parts up ends s = record {
  rises = rises_push numbers p.0 s.rises (All-weaker (λ (n : ℕ). All (λ (q : ℕ × ℕ). n < q.0) (p ∷ rest)) (λ (n : ℕ). n < p.0)
      (λ n under. All-head (λ (q : ℕ × ℕ). n < q.0) p rest under) numbers s.below);
  below = below;
  listed = ap (λ ls. ls ++ (docs ++ p.1 ∷ []) ∷ []) s.listed ∙ ap (λ ds. map g numbers ++ ds ∷ []) is ∙ sym (map_push g numbers p.0);
  begun = λ x begins. none x begins (docs_of_number x (done ++ p ∷ [])) refl;
  occur = All-push (λ (x : ℕ). 0 < length (docs_of_number x all)) numbers p.0 s.occur (omega (arith, ap length is, length-append docs (p.1 ∷ [])));
  whole = λ x some. inl (whole x some);
}
  where
    g : ℕ → List ℕ
    g x = docs_of_number x all

    is : docs ++ p.1 ∷ [] ≡ docs_of_number p.0 all
    is = ended_docs all done rest p parts up ends s

    below : All (λ n. All (λ q. n < q.0) rest) (numbers ++ p.0 ∷ [])
    below = All-push (λ (n : ℕ). All (λ (q : ℕ × ℕ). n < q.0) rest) numbers p.0
        (All-weaker (λ (n : ℕ). All (λ (q : ℕ × ℕ). n < q.0) (p ∷ rest)) (λ (n : ℕ). All (λ (q : ℕ × ℕ). n < q.0) rest)
        (λ n under. All-tail (λ (q : ℕ × ℕ). n < q.0) p rest under) numbers s.below) (above p.0 p.1 rest up ends)

    whole : (x : ℕ) → 0 < length (docs_of_number x (done ++ p ∷ [])) → Contains (numbers ++ p.0 ∷ []) x
    whole x some = elim (has_docs x done p some) [
      | inl same ↦ rw (sym same) (Contains-push numbers p.0)
      | inr earlier ↦ elim (s.whole x earlier.1) [
        | inl there ↦ Contains-append_left numbers (p.0 ∷ []) x there
        | inr begins ↦ absurd (earlier.0 (same_number p.0 x (p ∷ rest) (own_begins p rest) begins))
      ]
    ]

    none : (x : ℕ) → begins_with x rest ≡ true → (ds : List ℕ) → docs_of_number x (done ++ p ∷ []) ≡ ds → [] ≡ ds
    none x begins [] at = refl
    none x begins (d ∷ ds) at =
        let some : 0 < length (docs_of_number x (done ++ p ∷ [])) = omega (arith, ap length at) in
        absurd (unequal rest x begins (All-contains (λ (n : ℕ). All (λ (q : ℕ × ℕ). n < q.0) rest) (numbers ++ p.0 ∷ []) x below (whole x some)))
      where
        unequal : (rest : List (ℕ × ℕ)) (x : ℕ) → begins_with x rest ≡ true → All (λ q. x < q.0) rest → ⊥
        unequal [] x begins above = false≢true begins
        unequal (q ∷ rest) x begins above =
            let more : x < q.0 = All-head (λ (q : ℕ × ℕ). x < q.0) q rest above in
            let is_not : (q.0 == x) ≡ false = grind (arith, nat_tests) in false≢true (sym is_not ∙ begins)

pub AreGroups-all : (all : List (ℕ × ℕ)) {numbers : List ℕ} {lists : List (List ℕ)} {docs : List ℕ} →
    AreGrouped all all [] numbers lists docs → AreGroups all numbers lists
AreGroups-all all s = record {
  rises = s.rises;
  listed = s.listed;
  occur = s.occur;
  whole = λ x some. elim (s.whole x some) [ inl there ↦ there | inr begins ↦ absurd (false≢true begins) ];
}

-- a document with a number is one more pair
pub numbered-some : (x : ℕ) (ps : List (ℕ × ℕ)) (vs : List (Option ℕ)) (y doc : ℕ) → doc ≡ length vs →
    docs_of_number x ps ≡ numbers_where (is_number x) 0 vs → docs_of_number x (ps ++ (y, doc) ∷ []) ≡ numbers_where (is_number x) 0 (vs ++ Some y ∷ [])
numbered-some x ps vs y doc at same =
    docs_of_number-push x ps (y, doc) ∙ ap (λ ds. ds ++ cond (y == x) (doc ∷ []) []) same
    ∙ ap (λ n. numbers_where (is_number x) 0 vs ++ cond (y == x) (n ∷ []) []) (let here : doc ≡ 0 + length vs = omega arith in here)
    ∙ sym (numbers_where-push (is_number x) 0 vs (Some y))

pub numbered-none : (x : ℕ) (vs : List (Option ℕ)) → numbers_where (is_number x) 0 vs ≡ numbers_where (is_number x) 0 (vs ++ None ∷ [])
numbered-none x vs = sym (numbers_where-push (is_number x) 0 vs None ∙ append-nil (numbers_where (is_number x) 0 vs))

-- what pairs are sorted by: their numbers, and then their documents
abbrev rank : ℕ × ℕ → ℕ
rank p = p.0 * 4294967296 + p.1

in_turn : (a b : ℕ × ℕ) → a.1 < 4294967296 → b.1 < 4294967296 → is_lt (ordering_then (nat_cmp b.0 a.0) (nat_cmp b.1 a.1)) ≡ false →
    is_lt (nat_cmp (rank b) (rank a)) ≡ false
in_turn a b small low h =
    elim (cases_lt (rank b) (rank a)) [
      | inr up ↦ grind (arith, nat_tests, up)
      | inl down ↦ elim (cases_order b.0 a.0) [
        | inl same ↦
            let less : b.1 < a.1 = omega (arith, down, same) in
            absurd (false≢true (sym h ∙ (let is : is_lt (ordering_then (nat_cmp b.0 a.0) (nat_cmp b.1 a.1)) ≡ true = grind (arith, nat_tests, same, less) in is)))
        | inr (inl lower) ↦
            absurd (false≢true (sym h ∙ (let is : is_lt (ordering_then (nat_cmp b.0 a.0) (nat_cmp b.1 a.1)) ≡ true = grind (arith, nat_tests, lower) in is)))
        | inr (inr higher) ↦ absurd (omega (arith, down, higher, small, low))
      ]
    ]

-- sorted pairs rise by both
pub ranks_up : (ps : List (ℕ × ℕ)) → All (λ p. p.1 < 4294967296) ps → IsSorted (λ x y. ordering_then (nat_cmp x.0 y.0) (nat_cmp x.1 y.1)) ps →
    IsNonDecreasingBy rank ps
ranks_up ps small sorted =
    IsNonDecreasingBy-from_sort rank ps (λ k d low within.
    in_turn (get_or ps k d) (get_or ps (k + 1) d) (small k d (omega (arith, within))) (small (k + 1) d within) (sorted k d low within))

pub numbers_up : (ps : List (ℕ × ℕ)) → All (λ p. p.1 < 4294967296) ps → IsNonDecreasingBy rank ps → IsNonDecreasingBy (λ p. p.0) ps
numbers_up ps small up i j d le within =
    let a : (get_or ps i d).1 < 4294967296 = small i d (omega (arith, le, within)) in
    let b : (get_or ps j d).1 < 4294967296 = small j d within in
    omega (arith, up i j d le within, a, b)

same_test : (x y : ℕ) → (x == y) ≡ (y == x)
same_test x y = elim (cases_eq x y) [ inl same ↦ grind (arith, nat_tests) | inr differ ↦ grind (arith, nat_tests) ]

-- documents that rise differ, in whatever order they come
docs_differ : (ps qs : List (ℕ × ℕ)) → IsPermutation ps qs → AllPairs (λ (a b : ℕ × ℕ). a.1 < b.1) ps →
    AllPairs (λ (a b : ℕ × ℕ). (a.1 == b.1) ≡ false) qs
docs_differ ps qs moved rise =
    let same : ℕ × ℕ → ℕ × ℕ → Bool = λ a b. a.1 == b.1 in
    let before = IsDistinct-from_apart same ps (λ i j d low within.
    let less : (get_or ps i d).1 < (get_or ps j d).1 = rise i j d low within in grind (arith, nat_tests, less)) in
    let after = IsDistinct-IsPermutation same (λ a b. same_test a.1 b.1) ps qs moved before in
    λ i j d low within. apart_from_distinct same qs i j d after low within

is_same : {x y : ℕ} → (x == y) ≡ true → x ≡ y
is_same {x} {y} h = grind (arith, nat_tests, h)

are_apart : {x y : ℕ} → (x == y) ≡ false → x ≡ y → ⊥
are_apart {x} {y} h same = absurd (false≢true (sym h ∙ (let is : (x == y) ≡ true = grind (arith, nat_tests, same) in is)))

-- the documents of a number rise, if those of all pairs differ
docs_up : (x : ℕ) (ps : List (ℕ × ℕ)) → IsNonDecreasingBy rank ps → AllPairs (λ (a b : ℕ × ℕ). (a.1 == b.1) ≡ false) ps →
    IsStrictlyIncreasing (docs_of_number x ps)
docs_up x ps up differ k within =
    let test : ℕ × ℕ → Bool = λ p. p.0 == x in
    let kept = filter test ps in
    let R : ℕ × ℕ → ℕ × ℕ → Type 0 = λ a b. (rank a ≤ rank b) × ((a.1 == b.1) ≡ false) in
    let d : ℕ × ℕ = (x, 0) in
    let second : ℕ × ℕ → ℕ = λ p. p.1 in
    let inside : k + 1 < length kept = omega (arith, within, length-map kept second) in
    let both = AllPairs-filter R test ps (λ i j e low there. (up i j e (omega (arith, low)) there, differ i j e low there)) k (k + 1) d (omega arith) inside in
    let first : (get_or kept k d).0 ≡ x = is_same (Contains-from_filter test ps (get_or kept k d) (Contains-get_or kept k d (omega (arith, inside)))).1 in
    let later : (get_or kept (k + 1) d).0 ≡ x = is_same (Contains-from_filter test ps (get_or kept (k + 1) d) (Contains-get_or kept (k + 1) d inside)).1 in
    let apart : (get_or kept k d).1 ≡ (get_or kept (k + 1) d).1 → ⊥ = are_apart both.1 in
    rw (get_or-map second kept k d 0 (omega (arith, inside))) (rw (get_or-map second kept (k + 1) d 0 inside) (omega (arith, both.0, first, later, apart)))

-- a document of a number stays one, in whatever order the pairs come
docs_stay : (x : ℕ) (ps qs : List (ℕ × ℕ)) → IsPermutation ps qs → (d : ℕ) → Contains (docs_of_number x ps) d → Contains (docs_of_number x qs) d
docs_stay x ps qs moved d at =
    let test : ℕ × ℕ → Bool = λ p. p.0 == x in
    let from = Contains-from_values_of (filter test ps) d at in
    let there = Contains-from_filter test ps (from.0, d) from.1 in
    Contains-values_of (filter test qs) from.0 d
    (Contains-filter test qs (from.0, d) (Contains-permutation ps qs (from.0, d) moved there.0) there.1)

-- sorting pairs whose documents rise keeps the documents of each number
pub sorted_docs : (x : ℕ) (ps qs : List (ℕ × ℕ)) → IsPermutation ps qs → AllPairs (λ (a b : ℕ × ℕ). a.1 < b.1) ps → IsNonDecreasingBy rank qs →
    IsStrictlyIncreasing (docs_of_number x ps) → docs_of_number x qs ≡ docs_of_number x ps
sorted_docs x ps qs moved rise up docs =
    let less : ℕ → ℕ → Type 0 = λ a b. a < b in
    one_order less (λ a b p q. omega (arith, p, q)) (docs_of_number x qs) (docs_of_number x ps)
    (AllPairs-from_increasing (docs_of_number x qs) (docs_up x qs up (docs_differ ps qs moved rise)))
    (AllPairs-from_increasing (docs_of_number x ps) docs)
    (docs_stay x qs ps (IsPermutation-sym ps qs moved))
    (docs_stay x ps qs moved)

-- the groups of the numbers of a column are its index
pub IsNumberIndex-grouped : (vs : List (Option ℕ)) (pairs : List (ℕ × ℕ)) {numbers : List ℕ} {lists : List (List ℕ)} →
    ((x : ℕ) → docs_of_number x pairs ≡ numbers_where (is_number x) 0 vs) → AreGroups pairs numbers lists → IsNumberIndex vs numbers lists
IsNumberIndex-grouped vs pairs {numbers} same s = record {
  rises = s.rises;
  listed = s.listed ∙ all_same numbers;
  occur = All-weaker (λ (x : ℕ). 0 < length (docs_of_number x pairs)) (λ (x : ℕ). Contains vs (Some x)) occurs numbers s.occur;
  whole = λ x there.
      let at = numbers_where-at (is_number x) vs there.0 (Some x) (slice_get-get_or vs there.0 (Some x) there.1 ∙ ap Some there.2) (let is : (x == x) ≡ true = grind (arith, nat_tests) in is) in
      s.whole x (omega (arith, ap length (same x), at.1));
}
  where
    all_same : (xs : List ℕ) → map (λ x. docs_of_number x pairs) xs ≡ map (λ x. numbers_where (is_number x) 0 vs) xs
    all_same [] = refl
    all_same (x ∷ xs) = ap (λ ds. ds ∷ map (λ x. docs_of_number x pairs) xs) (same x) ∙ ap (λ ls. numbers_where (is_number x) 0 vs ∷ ls) (all_same xs)

    occurs : (x : ℕ) → 0 < length (docs_of_number x pairs) → Contains vs (Some x)
    occurs x some =
        let ns = numbers_where (is_number x) 0 vs in
        let at = numbers_where-holds (is_number x) 0 vs (get_or ns 0 0) (Contains-get_or ns 0 0 (omega (arith, some, ap length (same x)))) in
        let here = at.3 ∙ ap Some (is_number-is x at.2 at.4) in
        (at.0, slice_get_within vs at.0 (Some x) here, get_or_from_slice_get vs at.0 (Some x) (Some x) here)
