-- The progress of unpacking a block.
use Rattle.std.specs.Prelude.{◌≡◌, ℕ, ◌<◌, List, slice_index}
use Rattle.fts_pack.specs.FourLanes.{numbers_in_lanes}

-- the first `count` numbers of a block are written
abbrev pub IsUnpacked : ℕ → List ℕ → ℕ → List ℕ → Type 0
IsUnpacked width words count out =
    (i : ℕ) → i < count → slice_index out i ≡ slice_index (numbers_in_lanes width words) i
