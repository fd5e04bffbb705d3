-- Numbers appended to words, step by step, and read from them.
use Rattle.std.proofs.Common.{◌≡◌, ℕ, zero, suc, ◌+◌, ◌-◌, ◌*◌, ◌/◌, ◌%◌, ◌^◌, ◌<◌, ◌≤◌, inl, inr, List, [], ◌∷◌, ◌++◌, All, length, get_or, take, drop}
use Rattle.std.proofs.Common.{bit_and, bit_or, refl, sym, ap, ap₂, ◌∙◌, arith, lt_of_lt_of_le, mod-eq_of_lt, add-one, pow-suc, lt_of_le_of_lt}
use Rattle.std.proofs.lemmas.Nat.{pow_pos, or_shifted, or_comm, and_mask, shl_whole, div-add-mod', mod_below, one_shl, leading_length, or_lt, le_or_l, le_or_r}
use lib.Count.{count_leading_zeros}
use Rattle.std.proofs.lemmas.List.{take_more, get_or_past, length_push, get_or_push, get_or_append_left}
use Rattle.std.proofs.lemmas.List.Elements.{All-push}
use Rattle.std.proofs.lemmas.Bool.{cases_lt}
use Rattle.std.proofs.Math.Nat.{pow-le-pow_right}
use Rattle.fts_pack.specs.bits.Digits.{joined, digits, word_count, words_of, numbers_in}
use Rattle.fts_pack.proofs.DigitsLemmas.{Below, IsWritten, IsWritten-short, IsWritten-full, digits-joined, joined-digits, joined-below, length-digits, read_two}

pub Below-from_all : (width : ℕ) (xs : List ℕ) → All (λ x. x < 2 ^ width) xs → Below width xs
Below-from_all width xs h i =
    elim (cases_lt i (length xs)) [ inl inside ↦ h i 0 inside | inr past ↦ (rw (get_or_past xs i 0 past) (pow_pos width)) ]

-- the pending bits with one more number
pending_with : (word width pending filled x : ℕ) → pending < 2 ^ filled → x < 2 ^ width → width + filled ≤ word + word →
    bit_or pending (x * 2 ^ filled % 2 ^ (word + word)) ≡ pending + x * 2 ^ filled
pending_with word width pending filled x fits small room =
    rw (shl_whole x width filled (word + word) small room, or_comm pending (x * 2 ^ filled), or_shifted x filled pending fits) (omega arith)

-- one more number, if the pending bits fill no word
pub written_short : (word width : ℕ) (numbers words : List ℕ) (index pending filled x p f : ℕ) →
    IsWritten word width (take index numbers) words pending filled → index < length numbers → x ≡ get_or numbers index 0 → All (λ y. y < 2 ^ width) numbers →
    width ≤ word → p ≡ bit_or pending (x * 2 ^ filled % 2 ^ (word + word)) → f ≡ filled + width → filled + width < word →
    IsWritten word width (take (index + 1) numbers) words p f
written_short word width numbers words index pending filled x p f h inside x_is fits narrow p_is f_is short =
    let small : x < 2 ^ width = rw x_is (fits index 0 inside) in
    rw (take_more numbers index 0 inside, ← x_is, f_is, p_is ∙ pending_with word width pending filled x h.fits small (omega (arith, h.room)))
    (IsWritten-short word width (take index numbers) words pending filled x h small short)

-- one more number, if the pending bits fill a word
pub written_full : (word width : ℕ) (numbers words words' : List ℕ) (index pending filled x p f whole low : ℕ) →
    IsWritten word width (take index numbers) words pending filled → index < length numbers → x ≡ get_or numbers index 0 → All (λ y. y < 2 ^ width) numbers →
    width ≤ word → whole ≡ bit_or pending (x * 2 ^ filled % 2 ^ (word + word)) → low ≡ bit_and whole (2 ^ word - 1) → words' ≡ words ++ low ∷ [] →
    p ≡ whole / 2 ^ word → f ≡ filled + width - word → word ≤ filled + width → IsWritten word width (take (index + 1) numbers) words' p f
written_full word width numbers words words' index pending filled x p f whole low h inside x_is fits narrow whole_is low_is words_are p_is f_is full =
    let small : x < 2 ^ width = rw x_is (fits index 0 inside) in
    let sum : whole ≡ pending + x * 2 ^ filled = whole_is ∙ pending_with word width pending filled x h.fits small (omega (arith, h.room)) in
    let low' : low ≡ (pending + x * 2 ^ filled) % 2 ^ word = low_is ∙ and_mask whole word ∙ ap (λ n. n % 2 ^ word) sum in
    let p' : p ≡ (pending + x * 2 ^ filled) / 2 ^ word = p_is ∙ ap (λ n. n / 2 ^ word) sum in
    rw (take_more numbers index 0 inside, ← x_is, f_is, words_are, p', low') (IsWritten-full word width (take index numbers) words pending filled x h small full
    narrow)

pub length-words_of : (word width : ℕ) (numbers : List ℕ) → length (words_of word width numbers) ≡ word_count word (length numbers * width)
unfolding words_of
length-words_of word width numbers =
    length-digits word (word_count word (length numbers * width)) (joined width numbers)

-- the words are wide enough for all bits
pub word_count-holds : (word bits : ℕ) → 0 < word → bits ≤ word_count word bits * word
unfolding word_count
word_count-holds word bits h =
    omega (arith, div-add-mod' (bits + (word - 1)) word, mod_below (bits + (word - 1)) word h)

-- the numbers that were packed are read back
pub numbers_in-words_of : (word width : ℕ) (numbers : List ℕ) → 0 < word → Below width numbers →
    numbers_in word width (length numbers) (words_of word width numbers) ≡ numbers
unfolding numbers_in words_of
numbers_in-words_of word width numbers h below =
    let count = word_count word (length numbers * width) in
    let n = joined width numbers in
    let small : n < 2 ^ (count * word) =
    lt_of_lt_of_le (joined-below width numbers below) (pow-le-pow_right (pow_pos 1) (word_count-holds word (length numbers * width) h)) in
    ap (digits width (length numbers)) (joined-digits word count n ∙ mod-eq_of_lt small) ∙ digits-joined width numbers below

-- two adjacent words, shifted and masked, give the number that begins at a bit
pub read_pair : (word width bit high low : ℕ) (words : List ℕ) → 0 < word → width ≤ word → Below word words → low ≡ get_or words (bit / word) 0 →
    high ≡ get_or words (bit / word + 1) 0 →
    bit_and (bit_or (high * 2 ^ word % 2 ^ (word + word)) low / 2 ^ (bit % word)) (1 * 2 ^ width % 2 ^ (word + word) - 1)
    ≡ joined word words / 2 ^ bit % 2 ^ width
read_pair word width bit high low words some narrow below low_is high_is =
    let small : low < 2 ^ word = rw low_is (below (bit / word)) in
    let high_small : high < 2 ^ word = rw high_is (below (bit / word + 1)) in
    let start : bit % word < word = mod_below bit word some in
    let mask : 1 * 2 ^ width % 2 ^ (word + word) ≡ 2 ^ width = one_shl width (word + word) (omega arith) in
    let pair : bit_or (high * 2 ^ word % 2 ^ (word + word)) low ≡ high * 2 ^ word + low =
    ap (λ n. bit_or n low) (shl_whole high word word (word + word) high_small (omega arith)) ∙ or_shifted high word low small in
    let two : joined word words / 2 ^ (bit / word * word + bit % word) % 2 ^ width
    ≡ (get_or words (suc (bit / word)) 0 * 2 ^ word + get_or words (bit / word) 0) / 2 ^ (bit % word) % 2 ^ width =
    read_two word width (bit / word) (bit % word) words below (omega arith) in
    let place : bit / word * word + bit % word ≡ bit = div-add-mod' bit word in
    let sum : high * 2 ^ word + low ≡ get_or words (suc (bit / word)) 0 * 2 ^ word + get_or words (bit / word) 0 =
    ap₂ (λ a b. a * 2 ^ word + b) (high_is ∙ ap (λ i. get_or words i 0) (add-one (bit / word))) low_is in
    ap₂ (λ a b. bit_and (a / 2 ^ (bit % word)) (b - 1)) (pair ∙ sum) mask
    ∙ and_mask ((get_or words (suc (bit / word)) 0 * 2 ^ word + get_or words (bit / word) 0) / 2 ^ (bit % word)) width ∙ sym two
    ∙ ap (λ b. joined word words / 2 ^ b % 2 ^ width) place

-- the least number of bits that holds a number
pub width_holds : (size n : ℕ) → n < 2 ^ size → n < 2 ^ (size - count_leading_zeros size n)
width_holds size n h =
    let l = leading_length size n h in
    let e : size - count_leading_zeros size n ≡ l.0 = omega (arith, l.1) in
    rw e l.2

pub width_least : (size n width : ℕ) → n < 2 ^ size → n < 2 ^ width → size - count_leading_zeros size n ≤ width
width_least size n width h small =
    let l = leading_length size n h in
    let e : size - count_leading_zeros size n ≡ l.0 = omega (arith, l.1) in
    elim (cases_lt width l.0) [
      | inl below ↦ absurd (omega (arith, pow-le-pow_right (pow_pos 1) below, l.3, small, pow-suc 2 width))
      | inr enough ↦ (rw e enough)
    ]

-- the bits of several numbers together: a width holds them if it holds each
pub record HasBitsOf (numbers : List ℕ) (bits : ℕ) : Type 0 where
  pub holds : (width : ℕ) → bits < 2 ^ width → All (λ x. x < 2 ^ width) numbers
  pub least : (width : ℕ) → All (λ x. x < 2 ^ width) numbers → bits < 2 ^ width

pub HasBitsOf-push : (numbers : List ℕ) (bits x : ℕ) → HasBitsOf numbers bits → HasBitsOf (numbers ++ x ∷ []) (bit_or bits x)
HasBitsOf-push numbers bits x h = record {
  holds = λ width small. All-push (λ y. y < 2 ^ width) numbers x (h.holds width (lt_of_le_of_lt (le_or_l bits x) small))
      (lt_of_le_of_lt (le_or_r bits x) small);
  least = λ width each. or_lt width bits x (h.least width (λ k d inside. rw get_or_append_left at (each k d (omega (arith, length_push numbers x)))))
      (rw (get_or_push numbers x 0 (length numbers) refl) at (each (length numbers) 0 (omega (arith, length_push numbers x))));
}

pub length-numbers_in : (word width count : ℕ) (words : List ℕ) → length (numbers_in word width count words) ≡ count
unfolding numbers_in
length-numbers_in word width count words = length-digits width count (joined word words)

pub Below-drop : (width count : ℕ) (xs : List ℕ) → Below width xs → Below width (drop count xs)
Below-drop width zero xs h i = h i
Below-drop width (suc count) [] h i = h i
Below-drop width (suc count) (x ∷ xs) h i = Below-drop width count xs (λ j. h (suc j)) i
