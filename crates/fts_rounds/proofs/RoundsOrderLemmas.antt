-- Ordered lists of numbers are determined by how often each number occurs.
use Rattle.std.proofs.Common.{◌≡◌, ℕ, zero, suc, ◌+◌, ◌<◌, ◌≤◌, ◌≢◌, Bool, if◌then◌else◌, nat_lt, ◌==◌, List, [], ◌∷◌, length, sum_by, IsPermutation, sym, refl}
use Rattle.std.proofs.Common.{ap, ◌∙◌, arith, eq-eqb, ne_eqb}
use Rattle.std.proofs.lemmas.Bool.Decides.{nat_tests}
use Rattle.std.proofs.lemmas.List.Sums.{sum_by-cons}
use Rattle.std.proofs.lemmas.List.Sorted.{sum_by-IsPermutation}
use Rattle.std.specs.List.{range_with_len}
use Rattle.fts_base.specs.Totals.{times}
use Rattle.fts_rounds.specs.Rounds.{AllAbove, AllBelow, Rises}

-- each number is at least n
abbrev pub AllFrom : ℕ → List ℕ → Type 0
AllFrom n [] = Unit {0}
AllFrom n (x ∷ xs) = (n ≤ x) × AllFrom n xs

-- no number is below one before it
abbrev pub Climbs : List ℕ → Type 0
Climbs [] = Unit {0}
Climbs (x ∷ xs) = AllFrom x xs × Climbs xs

abbrev one : ℕ → ℕ → ℕ
one x y = if x == y then 1 else 0

one_same : (x : ℕ) → one x x ≡ 1
one_same x = ap (λ (b : Bool). if b then 1 else 0) (eq-eqb x x refl)

one_other : (x y : ℕ) → x ≢ y → one x y ≡ 0
one_other x y ne = ap (λ (b : Bool). if b then 1 else 0) (ne_eqb x y ne)

times_above : (n : ℕ) (xs : List ℕ) → AllAbove n xs → times n xs ≡ 0
times_above n [] a = refl
times_above n (x ∷ xs) a = let lt = a.0 in let ne : n ≢ x = (λ e. omega arith) in let o = one_other n x ne in let r = times_above n xs a.1 in omega arith

above_from : (n m : ℕ) (xs : List ℕ) → n < m → AllFrom m xs → AllAbove n xs
above_from n m [] lt a = tt
above_from n m (x ∷ xs) lt a = let le = a.0 in (omega arith, above_from n m xs lt a.1)

pub times_low : (k a n : ℕ) → k < a → times k (range_with_len a n) ≡ 0
times_low k a zero lt = refl
times_low k a (suc n) lt = let ne : k ≢ a = (λ e. omega arith) in let o = one_other k a ne in let r = times_low k (a + 1) n (omega arith) in omega arith

-- an ordered list that has each number as often as a range is that range
pub run_from_times : (a n : ℕ) (xs : List ℕ) → Climbs xs → ((k : ℕ) → times k xs ≡ times k (range_with_len a n)) → xs ≡ range_with_len a n
run_from_times a zero [] climbs same = refl
run_from_times a zero (x ∷ xs) climbs same = absurd (let s = same x in let o = one_same x in omega arith)
run_from_times a (suc n) [] climbs same = absurd (let s = same a in let o = one_same a in omega arith)
run_from_times a (suc n) (x ∷ xs) climbs same =
    let not_low : x < a → ⊥ = (λ lt. let z = times_low x a (suc n) lt in let s = same x in let o = one_same x in omega arith) in
    let not_high : a < x → ⊥ = (λ lt.
    let ne : a ≢ x = (λ e. omega arith) in
    let o = one_other a x ne in
    let z = times_above a xs (above_from a x xs lt climbs.0) in
    let s = same a in
    let h = one_same a in
    omega arith) in
    let is : x ≡ a = omega arith in
    let rest = run_from_times (a + 1) n xs climbs.1 (λ k. let s = same k in let e : one k x ≡ one k a = ap (one k) is in omega arith) in
    λ i. is i ∷ rest i

above_run : (b a n : ℕ) → b < a → AllAbove b (range_with_len a n)
above_run b a zero lt = tt
above_run b a (suc n) lt = (lt, above_run b (a + 1) n (omega arith))

pub run-rises : (a n : ℕ) → Rises (range_with_len a n)
run-rises a zero = tt
run-rises a (suc n) = (above_run a (a + 1) n (omega arith), run-rises (a + 1) n)

times_sum : (k : ℕ) (xs : List ℕ) → times k xs ≡ sum_by (one k) xs
times_sum k [] = refl
times_sum k (x ∷ xs) = ap (λ (n : ℕ). one k x + n) (times_sum k xs) ∙ sym (sum_by-cons (one k) x xs)

pub times-permutation : (k : ℕ) (xs ys : List ℕ) → IsPermutation xs ys → times k ys ≡ times k xs
times-permutation k xs ys moved = times_sum k ys ∙ (sum_by-IsPermutation (one k) xs ys moved ∙ sym (times_sum k xs))

abbrev low : ℕ → ℕ → ℕ
low n x = if nat_lt x n then 1 else 0

-- the number of members below n
abbrev count_below : ℕ → List ℕ → ℕ
count_below n [] = 0
count_below n (x ∷ xs) = low n x + count_below n xs

one_more : (n x : ℕ) → low (n + 1) x ≡ low n x + one n x
one_more n x = grind (arith, nat_tests)

count_more : (n : ℕ) (xs : List ℕ) → count_below (n + 1) xs ≡ count_below n xs + times n xs
count_more n [] = omega arith
count_more n (x ∷ xs) = let h = one_more n x in let r = count_more n xs in omega arith

none_below : (x : ℕ) → low 0 x ≡ 0
none_below x = grind (arith, nat_tests)

count_none : (xs : List ℕ) → count_below 0 xs ≡ 0
count_none [] = refl
count_none (x ∷ xs) = let h = none_below x in let r = count_none xs in omega arith

is_below : (n x : ℕ) → x < n → low n x ≡ 1
is_below n x lt = grind (arith, nat_tests)

count_all : (n : ℕ) (xs : List ℕ) → AllBelow n xs → count_below n xs ≡ length xs
count_all n [] b = refl
count_all n (x ∷ xs) b = let h = is_below n x b.0 in let r = count_all n xs b.1 in omega arith

count_each : (xs : List ℕ) (n : ℕ) → ((k : ℕ) → k < n → times k xs ≡ 1) → count_below n xs ≡ n
count_each xs zero each = count_none xs
count_each xs (suc n) each =
    let r = count_each xs n (λ k lt. each k (omega arith)) in
    let h = each n (omega arith) in
    ap (λ (k : ℕ). count_below k xs) (let e : suc n ≡ n + 1 = omega arith in e) ∙ (count_more n xs ∙ omega arith)

-- if each number below n occurs exactly once, and no other, there are n
pub length_each_once : (n : ℕ) (xs : List ℕ) → AllBelow n xs → ((k : ℕ) → times k xs ≤ 1) → ((k : ℕ) → k < n → 0 < times k xs) → length xs ≡ n
length_each_once n xs below most some = sym (count_all n xs below) ∙ count_each xs n (λ k lt. let a = most k in let b = some k lt in omega arith)
