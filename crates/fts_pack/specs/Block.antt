-- The contents of a block of packed numbers.
use Rattle.std.specs.Prelude.{◌≡◌, ℕ, ◌≤◌, List, take}
use Rattle.fts_pack.specs.bits.Digits.{IsWidthOf}
use Rattle.fts_pack.specs.FourLanes.{numbers_in_lanes, words_in_lanes}

-- the first `count` of the 128 numbers of `width` bits that are packed in the words
abbrev pub block_numbers : ℕ → ℕ → List ℕ → List ℕ
block_numbers count width words = take count (numbers_in_lanes width words)

-- words have `count` numbers, at the least width that holds each
pub record IsBlock (count width : ℕ) (words : List ℕ) : Type 0 where
  pub count_within : count ≤ 128
  pub width_within : width ≤ 32
  pub width_is : IsWidthOf (block_numbers count width words) width
  pub words_are : words ≡ words_in_lanes width (block_numbers count width words)
