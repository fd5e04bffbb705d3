-- The bit vector of a list's documents.
use Rattle.std.specs.Prelude.{◌≡◌, ℕ, ◌^◌, ◌≤◌, ◌==◌, Bool, false, List, length, slice_index_or}
use Rattle.std.specs.List.{list_any}

-- a bit is set exactly if its document is in the list
pub record AreBitsOf (documents : List ℕ) (bits : List Bool) : Type 0 where
  pub tells : (d : ℕ) → slice_index_or bits d false ≡ list_any (λ x. x == d) documents
  pub few : length bits ≤ 2 ^ 32
