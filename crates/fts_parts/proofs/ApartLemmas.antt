-- Elements of which no two have one number, in whatever order.
use Rattle.std.proofs.Common.{◌≡◌, ◌≢◌, ℕ, ◌≤◌, ◌==◌, Bool, true, false, cond, ⊎_elim, List, [], ◌∷◌, refl, sym, ap, ◌∙◌, arith, All, AllPairs, get_or, sum_by}
use Rattle.std.specs.List.Sorted.{IsPermutation}
use Rattle.std.proofs.lemmas.Bool.{cases_Bool, eqb-true, eq-eqb}
use Rattle.std.proofs.lemmas.List.Elements.{All-head, All-tail}
use Rattle.std.proofs.lemmas.List.Kept.{AllPairs-cons}
use Rattle.std.proofs.lemmas.List.Sums.{sum_by-cons, get_or-le-sum_by}
use Rattle.std.proofs.lemmas.List.Sorted.{sum_by-IsPermutation}
use Rattle.fts_model.proofs.Lists.{pairs_none, pairs_front, pairs_behind}

-- how many elements have a number
abbrev pub times : {X : Type 0} → (X → ℕ) → ℕ → List X → ℕ
times number n xs = sum_by (λ x. cond (number x == n) 1 0) xs

-- no two elements have one number
abbrev pub EachOnce : {X : Type 0} → (X → ℕ) → List X → Type 0
EachOnce number xs = AllPairs (λ a b. number a ≢ number b) xs

-- a number that no element has
times-none : {X : Type 0} (number : X → ℕ) (n : ℕ) (xs : List X) → All (λ x. number x ≢ n) xs → times number n xs ≡ 0
times-none number n [] h = refl
times-none {X} number n (x ∷ xs) h =
    let P : X → Type 0 = λ x. number x ≢ n in
    let rest = times-none number n xs (All-tail P x xs h) in
    let here : (number x == n) ≡ false =
    ⊎_elim (λ (yes : (number x == n) ≡ true). absurd (All-head P x xs h (eqb-true (number x) n yes))) (λ (no : (number x == n) ≡ false). no)
    (cases_Bool (number x == n)) in
    let zero : cond (number x == n) 1 0 ≡ 0 = ap {B = ℕ} (λ b. cond b 1 0) here in
    omega (arith, sum_by-cons (λ x. cond (number x == n) 1 0) x xs, rest, zero)

-- a test counts at most 1
at_most_one : (b : Bool) → cond b 1 0 ≤ 1
at_most_one true = omega arith
at_most_one false = omega arith

-- each number is had once at most
pub times-once : {X : Type 0} (number : X → ℕ) (n : ℕ) (xs : List X) → EachOnce number xs → times number n xs ≤ 1
times-once number n [] h = omega arith
times-once {X} number n (x ∷ xs) h =
    let sum = sum_by-cons (λ x. cond (number x == n) 1 0) x xs in
    ⊎_elim
    (λ (yes : (number x == n) ≡ true).
    let same : number x ≡ n = eqb-true (number x) n yes in
    let none = times-none number n xs (λ k d lt e. pairs_front (λ a b. number a ≢ number b) x xs h k d lt (same ∙ sym e)) in
    omega (arith, sum, none, at_most_one (number x == n)))
    (λ (no : (number x == n) ≡ false).
    let zero : cond (number x == n) 1 0 ≡ 0 = ap {B = ℕ} (λ b. cond b 1 0) no in
    omega (arith, sum, zero, times-once number n xs (pairs_behind (λ a b. number a ≢ number b) x xs h)))
    (cases_Bool (number x == n))

-- where each number is had once at most, no two have one
pub once-from_times : {X : Type 0} (number : X → ℕ) (xs : List X) → ((n : ℕ) → times number n xs ≤ 1) → EachOnce number xs
once-from_times number [] h = pairs_none (λ a b. number a ≢ number b)
once-from_times {X} number (x ∷ xs) h =
    let f : ℕ → X → ℕ = λ n x. cond (number x == n) 1 0 in
    AllPairs-cons (λ a b. number a ≢ number b) x xs
    (λ k d lt e.
    let here : f (number x) x ≡ 1 = ap {B = ℕ} (λ b. cond b 1 0) (eq-eqb (number x) (number x) refl) in
    let there : f (number x) (get_or xs k d) ≡ 1 = ap {B = ℕ} (λ b. cond b 1 0) (eq-eqb (number (get_or xs k d)) (number x) (sym e)) in
    let two = get_or-le-sum_by (f (number x)) xs k d lt in
    omega (arith, h (number x), sum_by-cons (f (number x)) x xs, here, there, two))
    (once-from_times number xs (λ n. omega (arith, h n, sum_by-cons (f n) x xs)))

-- in another order too
pub once-permuted : {X : Type 0} (number : X → ℕ) (xs ys : List X) → IsPermutation xs ys → EachOnce number xs → EachOnce number ys
once-permuted number xs ys moved once =
    once-from_times number ys (λ n. omega (arith, sum_by-IsPermutation (λ x. cond (number x == n) 1 0) xs ys moved, times-once number n xs once))
