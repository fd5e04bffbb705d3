-- Strictly rising lists, and what is left of them from a target on.
use Rattle.std.proofs.Common.{◌≡◌, ℕ, zero, suc, ◌+◌, ◌-◌, ◌<◌, ◌≤◌, cond, List, [], ◌∷◌, ◌++◌, length, get_or, drop, Some, None, refl, ap, ◌∙◌, inl, inr}
use Rattle.std.proofs.Common.{arith}
use Rattle.std.specs.List.{slice_get}
use Rattle.std.specs.List.Sorted.{IsStrictlyIncreasing}
use Rattle.std.proofs.lemmas.Bool.{le-leb, lt-leb, cases_lt}
use Rattle.std.proofs.lemmas.List.Elements.{filter-append}
use Rattle.fts_pack.specs.Documents.{Rises}
use Rattle.fts_postings.specs.Remaining.{at_least}

-- each number of a list that rises from `next` is `next` or more
pub Rises-get_or : (next : ℕ) (xs : List ℕ) (k : ℕ) → Rises next xs → k < length xs → next ≤ get_or xs k 0
Rises-get_or next [] k h inside = absurd (omega arith)
Rises-get_or next (x ∷ xs) zero h inside = h.0
Rises-get_or next (x ∷ xs) (suc k) h inside =
    omega (arith, h.0, Rises-get_or (suc x) xs k h.1 (omega (arith, inside)))

pub increasing-from_Rises : (next : ℕ) (xs : List ℕ) → Rises next xs → IsStrictlyIncreasing xs
increasing-from_Rises next [] h k inside = absurd (omega arith)
increasing-from_Rises next (x ∷ xs) h zero inside = Rises-get_or (suc x) xs 0 h.1 (omega (arith, inside))
increasing-from_Rises next (x ∷ xs) h (suc k) inside =
    let e : suc k + 1 ≡ suc (k + 1) = omega arith in
    rw e (increasing-from_Rises (suc x) xs h.1 k (omega (arith, inside)))

-- what follows a front rises too
pub Rises-tail : (next : ℕ) (xs ys : List ℕ) → Rises next (xs ++ ys) → (from : ℕ) × Rises from ys
Rises-tail next [] ys h = (next, h)
Rises-tail next (x ∷ xs) ys h = Rises-tail (suc x) xs ys h.1

pub Rises-front : (next : ℕ) (xs ys : List ℕ) → Rises next (xs ++ ys) → Rises next xs
Rises-front next [] ys h = tt
Rises-front next (x ∷ xs) ys h = (h.0, Rises-front (suc x) xs ys h.1)

pub at_least_all : (target next : ℕ) (xs : List ℕ) → Rises next xs → target ≤ next → at_least target xs ≡ xs
at_least_all target next [] h low = refl
at_least_all target next (x ∷ xs) h low =
    ap (λ b. cond b (x ∷ at_least target xs) (at_least target xs)) (le-leb target x (omega (arith, h.0)))
    ∙ ap (λ ys. x ∷ ys) (at_least_all target (suc x) xs h.1 (omega (arith, h.0)))

-- what is left from a target on begins at the target's place
pub at_least_place : (target next : ℕ) (xs : List ℕ) (k : ℕ) → Rises next xs → k ≤ length xs → (0 < k → get_or xs (k - 1) 0 < target) →
    (k < length xs → target ≤ get_or xs k 0) → at_least target xs ≡ drop k xs
at_least_place target next [] zero h inside before here = refl
at_least_place target next [] (suc k) h inside before here = refl
at_least_place target next (x ∷ xs) zero h inside before here =
    at_least_all target x (x ∷ xs) (omega arith, h.1) (here (omega arith))
at_least_place target next (x ∷ xs) (suc zero) h inside before here =
    ap (λ b. cond b (x ∷ at_least target xs) (at_least target xs)) (lt-leb target x (before (omega arith)))
    ∙ at_least_place target (suc x) xs zero h.1 (omega arith) (λ some. absurd (omega arith)) (λ some. here (omega (arith, some)))
at_least_place target next (x ∷ xs) (suc (suc k)) h inside before here =
    let back : suc (suc k) - 1 ≡ suc k = omega arith in
    let down : suc k - 1 ≡ k = omega arith in
    let last : get_or xs k 0 < target = rw back at (before (omega arith)) in
    let first : x < target = omega (arith, last, Rises-get_or (suc x) xs k h.1 (omega (arith, inside))) in
    ap (λ b. cond b (x ∷ at_least target xs) (at_least target xs)) (lt-leb target x first)
    ∙ at_least_place target (suc x) xs (suc k) h.1 (omega (arith, inside)) (λ some. rw down last) (λ some. here (omega (arith, some)))

pub at_least-append : (target : ℕ) (xs ys : List ℕ) → at_least target (xs ++ ys) ≡ at_least target xs ++ at_least target ys
at_least-append target xs ys = filter-append _ xs ys

pub at_least-at_least : (target : ℕ) (xs : List ℕ) → at_least target (at_least target xs) ≡ at_least target xs
at_least-at_least target [] = refl
at_least-at_least target (x ∷ xs) = elim (cases_lt x target) [
  | inl low ↦ rw (lt-leb target x low) (at_least-at_least target xs)
  | inr high ↦ rw (le-leb target x high) (rw (le-leb target x high) (ap (λ ys. x ∷ ys) (at_least-at_least target xs)))
]

-- the first that is left is the target or more
pub first-at_least : (target : ℕ) (xs : List ℕ) (first : ℕ) → Some first ≡ slice_get (at_least target xs) 0 → target ≤ first
first-at_least target [] first is = absurd (let e : Some first ≡ None = is in cc)
first-at_least target (x ∷ xs) first is = elim (cases_lt x target) [
  | inl low ↦ first-at_least target xs first (rw (lt-leb target x low) at is)
  | inr high ↦
      let e : Some first ≡ Some x = rw (le-leb target x high) at is in
      let same : first ≡ x = cc in
      omega (arith, same, high)
]

length-at_least : (target : ℕ) (xs : List ℕ) → length (at_least target xs) ≤ length xs
length-at_least target [] = omega arith
length-at_least target (x ∷ xs) = elim (cases_lt x target) [
  | inl low ↦ rw (lt-leb target x low) (omega (arith, length-at_least target xs))
  | inr high ↦ rw (le-leb target x high) (omega (arith, length-at_least target xs))
]

-- less is left above the first
pub fewer-at_least : (target : ℕ) (xs : List ℕ) (first : ℕ) → Some first ≡ slice_get xs 0 → first < target → length (at_least target xs) < length xs
fewer-at_least target [] first is low = absurd (let e : Some first ≡ None = is in cc)
fewer-at_least target (x ∷ xs) first is low =
    let same : first ≡ x = cc in
    rw (lt-leb target x (omega (arith, same, low))) (omega (arith, length-at_least target xs))

pub nothing_first : (xs : List ℕ) → None ≡ slice_get xs 0 → xs ≡ []
nothing_first [] h = refl
nothing_first (x ∷ xs) h = absurd (let e : None ≡ Some x = h in cc)
