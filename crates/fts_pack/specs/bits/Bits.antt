-- Bit vectors with one bit per document, as booleans.
use Rattle.std.specs.Prelude.{◌≡◌, ℕ, ◌^◌, ◌<◌, List, Bool, ◌==◌, count_by, length, if◌then◌else◌, map, slice_index}
use Rattle.fts_pack.specs.bits.Digits.{joined, numbers_in, word_count}

-- digits 0 and 1 as booleans: 1 is true
abbrev pub flags : List ℕ → List Bool
flags digits = map (λ d. d == 1) digits

-- booleans as digits 0 and 1
abbrev pub marks : List Bool → List ℕ
marks bits = map (λ bit. if bit then 1 else 0) bits

-- booleans as a number, the first in the lowest bit
abbrev pub number_of : List Bool → ℕ
number_of bits = joined 1 (marks bits)

-- words have `len` bits, and the bits past the last are 0
pub record IsBits (len : ℕ) (words : List ℕ) : Type 0 where
  pub len_fits : len < 2 ^ 64
  pub count : length words ≡ word_count 64 len
  pub fits : (k : ℕ) → slice_index words k < 2 ^ 64
  pub unused : joined 64 words < 2 ^ len

-- words have `len` bits, the bits past the last are 0, and `ones` of the bits are 1
pub record AreCounted (len ones : ℕ) (words : List ℕ) : Type 0 where
  pub bits : IsBits len words
  pub ones_are : ones ≡ count_by (λ bit. bit) (flags (numbers_in 64 1 len words))
