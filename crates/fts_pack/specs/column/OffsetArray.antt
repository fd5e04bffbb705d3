-- Offsets in integers of one width.
use Rattle.std.specs.Prelude.{◌≡◌, ℕ, ◌%◌, ◌<◌, ◌≤◌, ◌==◌, ◌&&◌, nat_le, false, Bool, List, Option, Some, None, length}
use Rattle.std.specs.Prelude.{take, slice_index, slice_index_or, if◌then◌else◌}
use Rattle.std.specs.Int.{bit_at}
use Rattle.fts_pack.specs.declared.column.offset_array.OffsetArray.{OffsetArray}
use Rattle.fts_pack.specs.declared.column.offset_array.OffsetArray.TheVariants.{Bytes, Words, Longs}

-- the offsets in the array
abbrev pub in_lanes : OffsetArray → List ℕ
in_lanes (Bytes list) = list.items
in_lanes (Words list) = list.items
in_lanes (Longs list) = list.items

-- an array has these offsets, padded to a multiple of 64
pub record AreLanesOf (numbers lanes : List ℕ) : Type 0 where
  pub first : take (length numbers) lanes ≡ numbers
  pub enough : length numbers ≤ length lanes
  pub whole : length lanes % 64 ≡ 0

-- bit k of the mask is set if number k is within bounds
abbrev pub AreMarked : List ℕ → ℕ → ℕ → ℕ → Type 0
AreMarked numbers low high marks =
    (k : ℕ) → k < 64 → (bit_at marks k == 1)
    ≡ (nat_le low (slice_index numbers k) && nat_le (slice_index numbers k) high)

-- the number of a document: its element of the array, if its bit is set
abbrev pub number_at : List Bool → List ℕ → ℕ → Option ℕ
number_at present lanes doc = if slice_index_or present doc false then Some (slice_index lanes doc) else None
