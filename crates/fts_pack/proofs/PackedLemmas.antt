-- A block of numbers among the words of a list, written and read.
use Rattle.std.proofs.Common.{◌≡◌, ℕ, ◌+◌, ◌*◌, ◌≤◌, List, ◌++◌, length, take, drop, ap, ap₂, ◌∙◌, refl, arith}
use Rattle.std.proofs.lemmas.List.{length-append, length-drop, drop_at, drop-append-le}
use Rattle.fts_pack.specs.declared.block_meta.BlockMeta.{BlockMeta}
use Rattle.fts_pack.specs.FourLanes.{numbers_in_lanes, words_in_lanes}
use Rattle.fts_pack.specs.BlockMeta.{numbers_at, IsWithin, IsAdded}
use Rattle.fts_pack.proofs.LaneLemmas.{length-words_in_lanes, numbers_in_lanes-append, numbers_in_lanes-words}

-- a block's numbers do not change when words are appended
pub numbers_at-append : (words more : List ℕ) (block : BlockMeta) → IsWithin words block → numbers_at (words ++ more) block ≡ numbers_at words block
numbers_at-append words more block h =
    let room : 4 * block.width ≤ length (drop block.start words) = omega (arith, length-drop block.start words, h.room) in
    ap (numbers_in_lanes block.width) (drop-append-le block.start words more (omega (arith, h.room)))
    ∙ numbers_in_lanes-append block.width (drop block.start words) more room

pub IsWithin-append : (words more : List ℕ) (block : BlockMeta) → IsWithin words block → IsWithin (words ++ more) block
IsWithin-append words more block h = record { narrow = h.narrow; room = omega (arith, length-append words more, h.room) }

-- a block that was added has its numbers
pub numbers_at-added : (piece before words : List ℕ) (block : BlockMeta) → IsAdded piece before words block → length piece ≤ 128 →
    take (length piece) (numbers_at words block) ≡ piece
numbers_at-added piece before words block h few =
    let rest : drop block.start words ≡ words_in_lanes block.width piece =
    ap₂ drop h.start h.words_are ∙ drop_at before (words_in_lanes block.width piece) (length before) refl in
    ap (λ ws. take (length piece) (numbers_in_lanes block.width ws)) rest ∙ numbers_in_lanes-words block.width piece few h.width_is.holds

-- an appended block adds as many words as it takes
pub length-added : (piece before words : List ℕ) (block : BlockMeta) → IsAdded piece before words block → length words ≡ length before + 4 * block.width
length-added piece before words block h =
    let more = words_in_lanes block.width piece in
    ap length h.words_are ∙ length-append before more ∙ ap (λ n. length before + n) (length-words_in_lanes block.width piece)

-- an appended block is within the words
pub IsWithin-added : (piece before words : List ℕ) (block : BlockMeta) → IsAdded piece before words block → IsWithin words block
IsWithin-added piece before words block h =
    record { narrow = h.narrow; room = omega (arith, length-added piece before words block h, h.start) }
