-- The offset ranges of each 128 values of a column.
use Rattle.std.specs.Prelude.{◌≡◌, ℕ, ◌+◌, ◌*◌, ◌<◌, nat_le, List, Option, Some, None, drop, take, slice_index_or}
use Rattle.std.specs.Prelude.{if◌then◌else◌}
use Rattle.fts_pack.specs.declared.column.block_ranges.BlockRanges.{BlockRanges}
use Rattle.fts_pack.specs.declared.column.block_ranges.BlockRanges.TheVariants.{Words, Longs}
use Rattle.fts_pack.specs.column.Column.{IsRangeOf}

-- the values of a block: up to 128 documents
abbrev pub block_of : ℕ → List (Option ℕ) → List (Option ℕ)
block_of block values = take 128 (drop (128 * block) values)

-- the offset range of a block without a value
abbrev pub no_ends : ℕ × ℕ
no_ends = (1, 0)

-- the range of values with these least and greatest offsets, if the first is not above the second
abbrev pub range_above : ℕ → ℕ × ℕ → Option (ℕ × ℕ)
range_above least ends = if nat_le ends.0 ends.1 then Some (least + ends.0, least + ends.1) else None

-- the least and greatest offset of the values from `least`
pub record AreEnds (least : ℕ) (values : List (Option ℕ)) (ends : ℕ × ℕ) : Type 0 where
  pub range_is : IsRangeOf values (range_above least ends)
  pub none : ends.1 < ends.0 → ends ≡ no_ends

-- the least and greatest offset of each block of the values from `least`
pub record AreEndsOf (least : ℕ) (values : List (Option ℕ)) (ends : List (ℕ × ℕ)) : Type 0 where
  pub range_is : (block : ℕ) → IsRangeOf (block_of block values) (range_above least (slice_index_or ends block no_ends))

-- the offset ranges of all blocks
abbrev pub in_blocks : BlockRanges → List (ℕ × ℕ)
in_blocks (Words list) = list.items
in_blocks (Longs list) = list.items
