-- The positions of a list's blocks among its words.
use Rattle.std.specs.Prelude.{◌≡◌, ℕ, ◌+◌, ◌*◌, ◌≤◌, ◌++◌, List, drop, length}
use Rattle.fts_pack.specs.bits.Digits.{IsWidthOf}
use Rattle.fts_pack.specs.declared.block_meta.BlockMeta.{BlockMeta}
use Rattle.fts_pack.specs.FourLanes.{numbers_in_lanes, words_in_lanes}

-- the 128 numbers of a block
abbrev pub numbers_at : List ℕ → BlockMeta → List ℕ
numbers_at words block = numbers_in_lanes block.width (drop block.start words)

-- a block is within the words
pub record IsWithin (words : List ℕ) (block : BlockMeta) : Type 0 where
  pub narrow : block.width ≤ 32
  pub room : block.start + 4 * block.width ≤ length words

-- a block was appended to the words
pub record IsAdded (piece before words : List ℕ) (block : BlockMeta) : Type 0 where
  pub start : block.start ≡ length before
  pub narrow : block.width ≤ 32
  pub width_is : IsWidthOf piece block.width
  pub words_are : words ≡ before ++ words_in_lanes block.width piece
