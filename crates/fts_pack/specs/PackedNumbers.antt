-- The contents of a list of numbers in blocks.
use Rattle.std.specs.Prelude.{◌≡◌, ℕ, ◌/◌, ◌%◌, ◌^◌, ◌<◌, List, All, length, map, slice_index, slice_index_or}
use Rattle.std.specs.List.{range_with_len}
use Rattle.fts_pack.specs.declared.block_meta.BlockMeta.{BlockMeta}
use Rattle.fts_pack.specs.Documents.{block_count}
use Rattle.fts_pack.specs.BlockMeta.{IsWithin, numbers_at}

-- a block that does not exist
abbrev pub no_block : BlockMeta
no_block = record { start = 0; width = 0 }

-- the number at an index
abbrev pub number_kept : List BlockMeta → List ℕ → ℕ → ℕ
number_kept blocks words index =
    slice_index (numbers_at words (slice_index_or blocks (index / 128) no_block)) (index % 128)

-- the numbers of a list of `count`
unfoldable pub numbers_kept : ℕ → List BlockMeta → List ℕ → List ℕ
numbers_kept count blocks words = map (number_kept blocks words) (range_with_len 0 count)

-- there is a block for each 128 of `count` numbers, the last possibly of fewer, and each is within the words
pub record AreKept (count : ℕ) (blocks : List BlockMeta) (words : List ℕ) : Type 0 where
  pub few : count < 2 ^ 64
  pub many : length blocks ≡ block_count count
  pub within : All (IsWithin words) blocks
