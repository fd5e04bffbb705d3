-- Lists of numbers as one large number, and back: the packing of numbers of a few bits in words.
use Rattle.std.specs.Prelude.{ℕ, zero, suc, ◌+◌, ◌-◌, ◌*◌, ◌/◌, ◌%◌, ◌^◌, ◌<◌, ◌≤◌, List, [], ◌∷◌, length, All}

-- the number whose digits to base 2 ^ width are these, the least first
unfoldable pub joined : ℕ → List ℕ → ℕ
joined width [] = 0
joined width (x ∷ xs) = joined width xs * 2 ^ width + x

-- the lowest `count` digits of a number to base 2 ^ width, the least first
unfoldable pub digits : ℕ → ℕ → ℕ → List ℕ
digits width zero n = []
digits width (suc count) n = n % 2 ^ width ∷ digits width count (n / 2 ^ width)

-- the number of words of `word` bits that hold `bits` bits
unfoldable pub word_count : ℕ → ℕ → ℕ
word_count word bits = (bits + (word - 1)) / word

-- numbers of `width` bits packed end to end in words of `word` bits, the low bits first: number i begins at bit i *
-- width
unfoldable pub words_of : ℕ → ℕ → List ℕ → List ℕ
words_of word width numbers = digits word (word_count word (length numbers * width)) (joined width numbers)

-- `count` numbers of `width` bits, read from words of `word` bits
unfoldable pub numbers_in : ℕ → ℕ → ℕ → List ℕ → List ℕ
numbers_in word width count words = digits width count (joined word words)

-- the least number of bits that holds each number
pub record IsWidthOf (numbers : List ℕ) (width : ℕ) : Type 0 where
  pub holds : All (λ x. x < 2 ^ width) numbers
  pub least : (other : ℕ) → All (λ x. x < 2 ^ other) numbers → width ≤ other
