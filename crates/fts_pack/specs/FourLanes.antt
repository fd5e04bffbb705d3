-- Numbers in four lanes: element i of a list is element i / 4 of lane i % 4.
use Rattle.std.specs.Prelude.{ℕ, ◌+◌, ◌*◌, ◌/◌, ◌%◌, List, slice_index, map}
use Rattle.std.specs.List.{range_with_len}
use Rattle.fts_pack.specs.bits.Digits.{numbers_in, words_of}

-- the first `count` elements of a lane; past the end of the list they are 0
unfoldable pub lane_of : ℕ → ℕ → List ℕ → List ℕ
lane_of count lane xs = map (λ place. slice_index xs (4 * place + lane)) (range_with_len 0 count)

-- the list with these four lanes, each of `count` elements
unfoldable pub woven : ℕ → (ℕ → List ℕ) → List ℕ
woven count lanes = map (λ i. slice_index (lanes (i % 4)) (i / 4)) (range_with_len 0 (4 * count))

-- the words of a block: up to 128 numbers of `width` bits, padded with zeros to 128, each lane packed by itself
unfoldable pub words_in_lanes : ℕ → List ℕ → List ℕ
words_in_lanes width numbers = woven width (λ lane. words_of 32 width (lane_of 32 lane numbers))

-- the 128 numbers of `width` bits that are packed in the words of a block
unfoldable pub numbers_in_lanes : ℕ → List ℕ → List ℕ
numbers_in_lanes width words = woven 32 (λ lane. numbers_in 32 width 32 (lane_of width lane words))
