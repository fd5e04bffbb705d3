-- Numbers with their documents.
use Rattle.std.specs.Prelude.{◌≡◌, ◌==◌, ◌<◌, ℕ, Bool, false, List, [], ◌∷◌, map, filter, length, All, Contains}
use Rattle.std.specs.List.Sorted.{IsStrictlyIncreasing}

-- the documents of a number
abbrev pub docs_of_number : ℕ → List (ℕ × ℕ) → List ℕ
docs_of_number x pairs = map (λ p. p.1) (filter (λ p. p.0 == x) pairs)

-- whether the first pair is one of this number
abbrev pub begins_with : ℕ → List (ℕ × ℕ) → Bool
begins_with x [] = false
begins_with x (p ∷ pairs) = p.0 == x

-- the distinct numbers of pairs, rising, and the documents of each
pub record AreGroups (pairs : List (ℕ × ℕ)) (numbers : List ℕ) (lists : List (List ℕ)) : Type 0 where
  pub rises : IsStrictlyIncreasing numbers
  pub listed : lists ≡ map (λ x. docs_of_number x pairs) numbers
  pub occur : All (λ x. 0 < length (docs_of_number x pairs)) numbers
  pub whole : (x : ℕ) → 0 < length (docs_of_number x pairs) → Contains numbers x
