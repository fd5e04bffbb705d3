-- What rising lists keep under a test, and what lists have.
use Rattle.std.proofs.Common.{◌≡◌, ℕ, zero, suc, ◌<◌, ◌≤◌, Bool, true, false, cond, ◌||◌, ◌&&◌, ◌==◌, Some, None, List, [], ◌∷◌, length, get_or, drop, nat_le}
use Rattle.std.proofs.Common.{refl, sym, ap, ap₂, subst, ◌∙◌, inl, inr, arith}
use Rattle.std.specs.List.{filter, slice_get}
use Rattle.std.specs.List.Sorted.{IsStrictlyIncreasing}
use Rattle.std.proofs.lemmas.Bool.{le-leb, lt-leb, cases_lt, cases_Bool}
use Rattle.std.proofs.lemmas.Bool.Decides.{nat_tests}
use Rattle.std.proofs.Math.Bool.{and-false}
use Rattle.fts_pack.specs.Documents.{Rises}
use Rattle.fts_postings.specs.Remaining.{at_least}
use Rattle.fts_postings.specs.Sets.{FirstPasses, has, in_all}
use Rattle.fts_postings.proofs.RemainingLemmas.{at_least_all}
use Rattle.fts_pack.proofs.DocumentsLemmas.{Rises-from_increasing}

pub below_is_other : (x y : ℕ) → y < x → (x == y) ≡ false
below_is_other x y h = grind (arith, nat_tests)

pub above_is_other : (x y : ℕ) → x < y → (x == y) ≡ false
above_is_other x y h = grind (arith, nat_tests)

pub is_itself : (x : ℕ) → (x == x) ≡ true
is_itself x = grind (arith, nat_tests)

-- a list that rises from above the document doesn't have it
pub has-below : (next : ℕ) (xs : List ℕ) (d : ℕ) → Rises next xs → d < next → has xs d ≡ false
has-below next [] d h low = refl
has-below next (x ∷ xs) d h low =
    ap (λ b. b || has xs d) (below_is_other x d (omega (arith, h.0))) ∙ has-below (suc x) xs d h.1 (omega (arith, h.0))

-- nor does one that begins above it
pub has-before_first : (xs : List ℕ) (first d : ℕ) → IsStrictlyIncreasing xs → Some first ≡ slice_get xs 0 → d < first → has xs d ≡ false
has-before_first [] first d h is low = refl
has-before_first (x ∷ xs) first d h is low =
    let same : first ≡ x = cc in
    has-below x (x ∷ xs) d (omega arith, (Rises-from_increasing (x ∷ xs) h).1) (omega (arith, same, low))

pub has-first : (xs : List ℕ) (first : ℕ) → Some first ≡ slice_get xs 0 → has xs first ≡ true
has-first [] first is = absurd (let e : Some first ≡ None = is in cc)
has-first (x ∷ xs) first is =
    let same : first ≡ x = cc in
    ap (λ b. b || has xs first) (ap (λ y. x == y) same ∙ is_itself x)

pub has-none : (xs : List ℕ) (d : ℕ) → None ≡ slice_get xs 0 → has xs d ≡ false
has-none [] d is = refl
has-none (x ∷ xs) d is = absurd (let e : None ≡ Some x = is in cc)

-- what is left from a target on has what the list has from there on
pub has-at_least : (target : ℕ) (xs : List ℕ) (d : ℕ) → target ≤ d → has (at_least target xs) d ≡ has xs d
has-at_least target [] d high = refl
has-at_least target (x ∷ xs) d high = elim (cases_lt x target) [
  | inl low ↦
      ap (λ b. has (cond b (x ∷ at_least target xs) (at_least target xs)) d) (lt-leb target x low)
      ∙ has-at_least target xs d high
      ∙ ap (λ b. b || has xs d) (sym (above_is_other x d (omega (arith, low, high))))
  | inr up ↦
      ap (λ b. has (cond b (x ∷ at_least target xs) (at_least target xs)) d) (le-leb target x up)
      ∙ ap (λ b. (x == d) || b) (has-at_least target xs d high)
]

pub in_all-lacking : (lists : List (List ℕ)) (k d : ℕ) → k < length lists → has (get_or lists k []) d ≡ false → in_all lists d ≡ false
in_all-lacking [] k d inside lacks = absurd (omega arith)
in_all-lacking (xs ∷ lists) zero d inside lacks = ap (λ b. b && in_all lists d) lacks
in_all-lacking (xs ∷ lists) (suc k) d inside lacks =
    ap (λ b. has xs d && b) (in_all-lacking lists k d (omega (arith, inside)) lacks) ∙ and-false (has xs d)

pub in_all-each : (lists : List (List ℕ)) (d : ℕ) → ((k : ℕ) → k < length lists → has (get_or lists k []) d ≡ true) → in_all lists d ≡ true
in_all-each [] d h = refl
in_all-each (xs ∷ lists) d h =
    ap₂ (λ a b. a && b) (h 0 (omega arith)) (in_all-each lists d (λ k inside. h (suc k) (omega (arith, inside))))

-- what rises from a document keeps the same of itself under tests that agree from there on
pub filter-same : (next : ℕ) (p q : ℕ → Bool) (xs : List ℕ) → Rises next xs → ((d : ℕ) → next ≤ d → p d ≡ q d) → filter p xs ≡ filter q xs
filter-same next p q [] h same = refl
filter-same next p q (x ∷ xs) h same =
    ap₂ (λ b ys. cond b (x ∷ ys) ys) (same x h.0) (filter-same (suc x) p q xs h.1 (λ d high. same d (omega (arith, high, h.0))))

-- what doesn't pass may be passed over
pub filter-ahead : (from next : ℕ) (p : ℕ → Bool) (xs : List ℕ) → Rises from xs → ((d : ℕ) → from ≤ d → d < next → p d ≡ false) →
    filter p (at_least next xs) ≡ filter p xs
filter-ahead from next p [] h lack = refl
filter-ahead from next p (x ∷ xs) h lack =
    let rest = filter-ahead (suc x) next p xs h.1 (λ d high low. lack d (omega (arith, high, h.0)) low) in
    elim (cases_lt x next) [
      | inl low ↦
          ap (λ b. filter p (cond b (x ∷ at_least next xs) (at_least next xs))) (lt-leb next x low)
          ∙ rest
          ∙ ap (λ b. cond b (x ∷ filter p xs) (filter p xs)) (sym (lack x h.0 low))
      | inr high ↦
          ap (λ b. filter p (cond b (x ∷ at_least next xs) (at_least next xs))) (le-leb next x high)
          ∙ ap (λ ys. cond (p x) (x ∷ ys) ys) rest
    ]

pub filter-none : (from : ℕ) (p : ℕ → Bool) (xs : List ℕ) → Rises from xs → ((d : ℕ) → from ≤ d → p d ≡ false) → filter p xs ≡ []
filter-none from p [] h lack = refl
filter-none from p (x ∷ xs) h lack =
    ap (λ b. cond b (x ∷ filter p xs) (filter p xs)) (lack x h.0)
    ∙ filter-none (suc x) p xs h.1 (λ d high. lack d (omega (arith, high, h.0)))

-- a rising list rises from its first
pub Rises-from_first : (xs : List ℕ) (first : ℕ) → IsStrictlyIncreasing xs → Some first ≡ slice_get xs 0 → Rises first xs
Rises-from_first [] first h is = tt
Rises-from_first (x ∷ xs) first h is =
    let same : first ≡ x = cc in
    (omega (arith, same), (Rises-from_increasing (x ∷ xs) h).1)

-- the first that passes, where the first does
pub filter-first : (p : ℕ → Bool) (xs : List ℕ) → FirstPasses p xs → slice_get xs 0 ≡ slice_get (filter p xs) 0
filter-first p [] h = refl
filter-first p (x ∷ xs) h = ap (λ b. slice_get (cond b (x ∷ filter p xs) (filter p xs)) 0) (sym h)

-- the step over it is that over what passes
pub filter-step : (p : ℕ → Bool) (xs : List ℕ) → FirstPasses p xs → filter p (drop 1 xs) ≡ drop 1 (filter p xs)
filter-step p [] h = refl
filter-step p (x ∷ xs) h = ap (λ b. drop 1 (cond b (x ∷ filter p xs) (filter p xs))) (sym h)

pub FirstPasses-first : (p : ℕ → Bool) (xs : List ℕ) (first : ℕ) → Some first ≡ slice_get xs 0 → p first ≡ true → FirstPasses p xs
FirstPasses-first p [] first is h = tt
FirstPasses-first p (x ∷ xs) first is h = let same : first ≡ x = cc in subst (λ d. p d ≡ true) same h

-- what rises from a number rises from a lower one
pub Rises-lower : (next low : ℕ) (xs : List ℕ) → low ≤ next → Rises next xs → Rises low xs
Rises-lower next low [] le h = tt
Rises-lower next low (x ∷ xs) le h = (omega (arith, le, h.0), h.1)

filter-by : (p : ℕ → Bool) (x : ℕ) (xs : List ℕ) (b : Bool) → p x ≡ b → filter p (x ∷ xs) ≡ cond b (x ∷ filter p xs) (filter p xs)
filter-by p x xs b e = ap (λ t. cond t (x ∷ filter p xs) (filter p xs)) e

-- two filters, one after the other, go in either order
pub filter-filter : (p q : ℕ → Bool) (xs : List ℕ) → filter p (filter q xs) ≡ filter q (filter p xs)
filter-filter p q [] = refl
filter-filter p q (x ∷ xs) =
    let rest = filter-filter p q xs in
    elim (cases_Bool (p x)) [
      | inl kept ↦ elim (cases_Bool (q x)) [
        | inl good ↦
            ap (filter p) (filter-by q x xs true good) ∙ filter-by p x (filter q xs) true kept ∙ ap (λ ys. x ∷ ys) rest
            ∙ sym (ap (filter q) (filter-by p x xs true kept) ∙ filter-by q x (filter p xs) true good)
        | inr bad ↦
            ap (filter p) (filter-by q x xs false bad) ∙ rest
            ∙ sym (ap (filter q) (filter-by p x xs true kept) ∙ filter-by q x (filter p xs) false bad)
      ]
      | inr other ↦ elim (cases_Bool (q x)) [
        | inl good ↦
            ap (filter p) (filter-by q x xs true good) ∙ filter-by p x (filter q xs) false other ∙ rest
            ∙ sym (ap (filter q) (filter-by p x xs false other))
        | inr bad ↦ ap (filter p) (filter-by q x xs false bad) ∙ rest ∙ sym (ap (filter q) (filter-by p x xs false other))
      ]
    ]

-- what is left of what passes is what passes of that which is left
pub filter-at_least : (target : ℕ) (p : ℕ → Bool) (xs : List ℕ) → filter p (at_least target xs) ≡ at_least target (filter p xs)
filter-at_least target p xs = filter-filter p (λ d. nat_le target d) xs

-- what is kept of a rising list rises
pub Rises-filter : (next : ℕ) (p : ℕ → Bool) (xs : List ℕ) → Rises next xs → Rises next (filter p xs)
Rises-filter next p [] h = tt
Rises-filter next p (x ∷ xs) h = elim (cases_Bool (p x)) [
  | inl kept ↦ rw kept (h.0, Rises-filter (suc x) p xs h.1)
  | inr other ↦ rw other (Rises-lower (suc x) next (filter p xs) (omega (arith, h.0)) (Rises-filter (suc x) p xs h.1))
]

-- where the first is the target or more, nothing is left behind
pub filter-stays : (target first : ℕ) (p : ℕ → Bool) (xs : List ℕ) → IsStrictlyIncreasing xs → Some first ≡ slice_get xs 0 → target ≤ first →
    filter p xs ≡ at_least target (filter p xs)
filter-stays target first p xs h is le =
    sym (at_least_all target first (filter p xs) (Rises-filter first p xs (Rises-from_first xs first h is)) le)

-- the step over a document that doesn't pass
pub filter-past : (test : ℕ → Bool) (xs : List ℕ) (doc : ℕ) → Some doc ≡ slice_get xs 0 → test doc ≡ false → filter test (drop 1 xs) ≡ filter test xs
filter-past test [] doc is fails = refl
filter-past test (x ∷ xs) doc is fails =
    let same : doc ≡ x = cc in
    sym (ap (λ b. cond b (x ∷ filter test xs) (filter test xs)) (ap test (sym same) ∙ fails))

-- a document that isn't live is passed over
pub dead_passed : (test : ℕ → Bool) (xs next : List ℕ) (doc : ℕ) → Some doc ≡ slice_get xs 0 → test doc ≡ false → next ≡ drop 1 xs →
    filter test next ≡ filter test xs
dead_passed test xs next doc first fails is = ap (filter test) is ∙ filter-past test xs doc first fails

-- where none passes, the first not even, there is none
pub none_left : (test : ℕ → Bool) (xs : List ℕ) → FirstPasses test xs → filter test xs ≡ [] → xs ≡ []
none_left test [] passes none = refl
none_left test (x ∷ xs) passes none =
    absurd (let e : x ∷ filter test xs ≡ [] = sym (ap (λ b. cond b (x ∷ filter test xs) (filter test xs)) passes) ∙ none in cc)
