-- The number of documents in lists.
use Rattle.std.proofs.Common.{◌≡◌, ◌+◌, ◌<◌, ◌≤◌, ℕ, zero, suc, List, [], ◌∷◌, length, get_or, map, take, refl, arith}
use Rattle.std.specs.Prelude.{sum}
use Rattle.std.proofs.lemmas.List.Sums.{sum_by-cons}

-- the number of documents in all lists
abbrev pub total : List (List ℕ) → ℕ
total [] = 0
total (xs ∷ lists) = length xs + total lists

-- the number of documents before a list
pub total-start : (lists : List (List ℕ)) (k : ℕ) → sum (take k (map length lists)) ≡ total (take k lists)
total-start lists zero = refl
total-start [] (suc k) = refl
total-start (xs ∷ lists) (suc k) = omega (arith, sum_by-cons (λ n. n) (length xs) (take k (map length lists)), total-start lists k)

-- the first lists have no fewer than some of these
pub total-rises : (lists : List (List ℕ)) (j k : ℕ) → j ≤ k → total (take j lists) ≤ total (take k lists)
total-rises lists zero k le = omega arith
total-rises lists (suc j) zero le = absurd (omega (arith, le))
total-rises [] (suc j) (suc k) le = omega arith
total-rises (xs ∷ lists) (suc j) (suc k) le = omega (arith, total-rises lists j k (omega (arith, le)))

pub total-next : (lists : List (List ℕ)) (k : ℕ) → k < length lists → total (take (suc k) lists) ≡ total (take k lists) + length (get_or lists k [])
total-next [] k less = absurd (omega (arith, less))
total-next (xs ∷ lists) zero less = omega arith
total-next (xs ∷ lists) (suc k) less = omega (arith, total-next lists k (omega (arith, less)))
