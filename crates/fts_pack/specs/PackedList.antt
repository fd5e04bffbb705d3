-- The contents of a list of documents in blocks.
use Rattle.std.specs.Prelude.{◌≡◌, ℕ, suc, ◌-◌, ◌*◌, ◌^◌, ◌<◌, List, [], ◌∷◌, ◌++◌, All, drop, length, min, take}
use Rattle.std.specs.List.Sorted.{IsStrictlyIncreasing}
use Rattle.fts_pack.specs.bits.Digits.{IsWidthOf}
use Rattle.fts_pack.specs.Documents.{after, documents_at, gaps}
use Rattle.fts_pack.specs.BlockMeta.{IsAdded, IsWithin, numbers_at}
use Rattle.fts_pack.specs.FourLanes.{words_in_lanes}
use Rattle.fts_pack.specs.declared.skip.Skip.{Skip}

-- the documents of one block, the first of them at least `next`
abbrev pub kept_block : List ℕ → ℕ → ℕ → Skip → List ℕ
kept_block words next count skip = documents_at next (take (min 128 count) (numbers_at words skip.block))

-- the documents of all blocks, `count` in total
abbrev pub kept_documents : List ℕ → ℕ → ℕ → List Skip → List ℕ
kept_documents words next count [] = []
kept_documents words next count (skip ∷ skips) =
    kept_block words next count skip ++ kept_documents words (suc skip.last) (count - 128) skips

-- a block is within the words, packed in the stated layout, and its skip entry has its last document
pub record IsKeptBlock (words : List ℕ) (next count : ℕ) (skip : Skip) : Type 0 where
  pub some : 0 < count
  pub within : IsWithin words skip.block
  pub last_is : after next (kept_block words next count skip) ≡ suc skip.last
  pub width_is : IsWidthOf (gaps next (kept_block words next count skip)) skip.block.width
  pub words_are : take (4 * skip.block.width) (drop skip.block.start words)
      ≡ words_in_lanes skip.block.width (gaps next (kept_block words next count skip))

-- each block is packed in the words
abbrev pub AreKept : List ℕ → ℕ → ℕ → List Skip → Type 0
AreKept words next count [] = count ≡ 0
AreKept words next count (skip ∷ skips) =
    IsKeptBlock words next count skip × AreKept words (suc skip.last) (count - 128) skips

-- the blocks have `count` documents, which rise strictly
pub record IsPackedList (count : ℕ) (skips : List Skip) (words : List ℕ) : Type 0 where
  pub count_fits : count < 2 ^ 64
  pub kept : AreKept words 0 count skips
  pub rises : IsStrictlyIncreasing (kept_documents words 0 count skips)
  pub fits : All (λ document. document < 2 ^ 32) (kept_documents words 0 count skips)

-- a block of documents was appended to the words, and its skip entry has its position and its last document
pub record IsSkipAdded (piece : List ℕ) (next : ℕ) (before words : List ℕ) (skip : Skip) : Type 0 where
  pub block : IsAdded (gaps next piece) before words skip.block
  pub last_is : suc skip.last ≡ after next piece

-- a list begins with another
abbrev pub Extends : {X : Type 0} → List X → List X → Type 0
Extends old new = new ≡ old ++ drop (length old) new

-- the blocks of documents were appended to the skip entries
pub record AreBlocksAdded (documents : List ℕ) (before skips : List Skip) (words : List ℕ) : Type 0 where
  pub is : IsPackedList (length documents) (drop (length before) skips) words
  pub documents_are : kept_documents words 0 (length documents) (drop (length before) skips) ≡ documents
