-- Documents counted by their values.
use Rattle.std.specs.Prelude.{◌≡◌, ℕ, ◌+◌, ◌%◌, ◌^◌, ◌<◌, ◌≤◌, ◌==◌, false, Bool, List, Option, Some, None, All, IfSome}
use Rattle.std.specs.Prelude.{count_by, length, slice_index, slice_index_or}

-- whether an optional value is this one
abbrev pub is_value : ℕ → Option ℕ → Bool
is_value x None = false
is_value x (Some y) = y == x

-- the number of documents that have a value in a column
abbrev pub having : List (Option ℕ) → List ℕ → ℕ → ℕ
having values docs x = count_by (λ doc. is_value x (slice_index_or values doc None)) docs

-- each value of a column is at least `least` and below `least` plus a count
abbrev pub AreWithin : List (Option ℕ) → ℕ → ℕ → Type 0
AreWithin values least count = All (λ v. IfSome v (λ x. (least ≤ x) × (x < least + count))) values

-- each count went up by the number of documents with its number, modulo 2 ^ 64
pub record AreCounted (number : ℕ → Option ℕ) (docs old new : List ℕ) : Type 0 where
  pub counted : (place : ℕ) → place < length old → slice_index new place
      ≡ (slice_index old place + count_by (λ doc. is_value place (number doc)) docs) % 2 ^ 64
  pub long : length new ≡ length old
