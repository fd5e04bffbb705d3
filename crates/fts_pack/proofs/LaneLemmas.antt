-- The elements of lanes, and that the numbers of a block are those of its words.
use Rattle.std.proofs.Common.{◌≡◌, ◌≢◌, ◌-◌, bit_and, bit_or, ℕ, suc, ◌+◌, ◌*◌, ◌/◌, ◌%◌, ◌^◌, ◌<◌, ◌≤◌, inl, inr, List, [], ◌∷◌, ◌++◌, All, length, get_or}
use Rattle.std.proofs.Common.{set, take, refl, sym, ap, ap₂, ◌∙◌, replicate, arith}
use Rattle.std.proofs.lemmas.List.FromFn.{get_or-map-range_with_len, length-map-range_with_len, map-range_with_len_more}
use Rattle.std.proofs.lemmas.List.{get_or_past, get_or_default, get_or_append_left, get_or-take, length-take-le, get_or-set_same, get_or-set_other, length-set}
use Rattle.std.proofs.lemmas.List.{take_all}
use Rattle.std.proofs.lemmas.Grind.{same_number_lists}
use Rattle.std.proofs.lemmas.Simd.{get_or-replicate}
use Rattle.std.proofs.Math.Nat.{mod-one}
use Rattle.std.proofs.lemmas.Bool.{cases_lt}
use Rattle.std.proofs.lemmas.Nat.{pow_pos, div-mul-add, mul-le}
use Rattle.fts_pack.specs.bits.Digits.{joined, numbers_in, word_count, words_of}
use Rattle.fts_pack.specs.FourLanes.{lane_of, woven, words_in_lanes, numbers_in_lanes}
use Rattle.fts_pack.proofs.DigitsLemmas.{Below, IsWritten, IsWritten-start, IsWritten-end, read_one, read_two, get_or-digits}
use Rattle.fts_pack.proofs.PackingLemmas.{Below-from_all, length-words_of, numbers_in-words_of, written_full, written_short}

pub length-lane_of : (count lane : ℕ) (xs : List ℕ) → length (lane_of count lane xs) ≡ count
unfolding lane_of
length-lane_of count lane xs = length-map-range_with_len _ 0 count

pub get_or-lane_of : (count lane : ℕ) (xs : List ℕ) (place : ℕ) → place < count → get_or (lane_of count lane xs) place 0 ≡ get_or xs (4 * place + lane) 0
unfolding lane_of
get_or-lane_of count lane xs place h = get_or-map-range_with_len _ 0 count place place 0 h (omega arith)

pub Below-lane_of : (bits count lane : ℕ) (xs : List ℕ) → Below bits xs → Below bits (lane_of count lane xs)
Below-lane_of bits count lane xs h place =
    elim (cases_lt place count) [
      | inl inside ↦ (rw (get_or-lane_of count lane xs place inside) (h (4 * place + lane)))
      | inr past ↦ (rw (get_or_past (lane_of count lane xs) place 0 (omega (arith, length-lane_of count lane xs))) (pow_pos bits))
    ]

pub All-lane_of : (width count lane : ℕ) (xs : List ℕ) → All (λ x. x < 2 ^ width) xs → All (λ x. x < 2 ^ width) (lane_of count lane xs)
All-lane_of width count lane xs fits k d inside =
    rw (get_or_default (lane_of count lane xs) k d 0 inside) (Below-lane_of width count lane xs (Below-from_all width xs fits) k)

-- lanes are equal if their elements are
pub lane_same : (count lane : ℕ) (xs ys : List ℕ) → ((place : ℕ) → place < count → get_or xs (4 * place + lane) 0 ≡ get_or ys (4 * place + lane) 0) →
    lane_of count lane xs ≡ lane_of count lane ys
lane_same count lane xs ys same =
    same_number_lists (lane_of count lane xs) (lane_of count lane ys) (length-lane_of count lane xs ∙ sym (length-lane_of count lane ys)) (λ k inside.
    let near : k < count = omega (arith, length-lane_of count lane xs) in
    get_or-lane_of count lane xs k near ∙ same k near ∙ sym (get_or-lane_of count lane ys k near))

-- an element of a lane within its block, and 0 past the end of both
pub lane_get : (width lane place : ℕ) (words : List ℕ) → lane < 4 → 4 * width ≤ length words → get_or (take (4 * width) words) (4 * place + lane) 0
    ≡ get_or (lane_of width lane words) place 0
lane_get width lane place words small room =
    elim (cases_lt place width) [
      | inl inside ↦ (get_or-take (4 * width) words (4 * place + lane) 0 (omega (arith, small, inside)) ∙ sym (get_or-lane_of width lane words place inside))
      | inr past ↦ (get_or_past (take (4 * width) words) (4 * place + lane) 0 (omega (arith, past, length-take-le (4 * width) words room))
          ∙ sym (get_or_past (lane_of width lane words) place 0 (omega (arith, past, length-lane_of width lane words))))
    ]

-- a lane with one more element
lane_more : (count lane : ℕ) (xs : List ℕ) → lane_of (count + 1) lane xs ≡ lane_of count lane xs ++ get_or xs (4 * count + lane) 0 ∷ []
unfolding lane_of
lane_more count lane xs = map-range_with_len_more (λ place. get_or xs (4 * place + lane) 0) 0 count count (omega arith)

lane_written : (count lane x : ℕ) (xs : List ℕ) → 4 * count + lane < length xs → lane_of (count + 1) lane (set xs (4 * count + lane) x) ≡ lane_of count lane xs
    ++ x ∷ []
lane_written count lane x xs inside =
    let at = 4 * count + lane in
    let rest : lane_of count lane (set xs at x) ≡ lane_of count lane xs =
    lane_same count lane (set xs at x) xs (λ place near. get_or-set_other xs at (4 * place + lane) x 0 (omega arith)) in
    lane_more count lane (set xs at x) ∙ ap₂ (λ ys y. ys ++ y ∷ []) rest (get_or-set_same xs at x 0 inside)

pub length-woven : (count : ℕ) (lanes : ℕ → List ℕ) → length (woven count lanes) ≡ 4 * count
unfolding woven
length-woven count lanes = length-map-range_with_len _ 0 (4 * count)

pub get_or-woven : (count : ℕ) (lanes : ℕ → List ℕ) (place lane : ℕ) → place < count → lane < 4 →
    get_or (woven count lanes) (4 * place + lane) 0 ≡ get_or (lanes lane) place 0
unfolding woven
get_or-woven count lanes place lane h small =
    let low : (4 * place + lane) % 4 ≡ lane = omega arith in
    let high : (4 * place + lane) / 4 ≡ place = omega arith in
    get_or-map-range_with_len _ 0 (4 * count) (4 * place + lane) (4 * place + lane) 0 (omega arith) (omega arith)
    ∙ (rw (low, high) refl)

-- a list is woven of its lanes
woven-lanes : (count : ℕ) (lanes : ℕ → List ℕ) (xs : List ℕ) → 4 * count ≤ length xs → ((lane : ℕ) → lane < 4 → lane_of count lane xs ≡ lanes lane) →
    take (4 * count) xs ≡ woven count lanes
woven-lanes count lanes xs long each =
    let size : length (take (4 * count) xs) ≡ 4 * count = length-take-le (4 * count) xs long in
    same_number_lists (take (4 * count) xs) (woven count lanes) (size ∙ sym (length-woven count lanes)) (λ k inside.
    let near : k < 4 * count = omega (arith, size) in
    let place : k ≡ 4 * (k / 4) + k % 4 = omega arith in
    let low : k % 4 < 4 = omega arith in
    let row : k / 4 < count = omega arith in
    get_or-take (4 * count) xs k 0 near
    ∙ ap (λ n. get_or xs n 0) place
    ∙ sym (get_or-lane_of count (k % 4) xs (k / 4) row)
    ∙ ap (λ ys. get_or ys (k / 4) 0) (each (k % 4) low)
    ∙ sym (get_or-woven count lanes (k / 4) (k % 4) row low)
    ∙ ap (λ n. get_or (woven count lanes) n 0) (sym place))

lane_of-woven : (count : ℕ) (lanes : ℕ → List ℕ) (lane : ℕ) → lane < 4 → length (lanes lane) ≡ count → lane_of count lane (woven count lanes) ≡ lanes lane
lane_of-woven count lanes lane small long =
    same_number_lists (lane_of count lane (woven count lanes)) (lanes lane) (length-lane_of count lane (woven count lanes) ∙ sym long) (λ k inside.
    let near : k < count = omega (arith, length-lane_of count lane (woven count lanes)) in
    get_or-lane_of count lane (woven count lanes) k near ∙ get_or-woven count lanes k lane near small)

pub length-numbers_in_lanes : (width : ℕ) (words : List ℕ) → length (numbers_in_lanes width words) ≡ 128
unfolding numbers_in_lanes
length-numbers_in_lanes width words = length-woven 32 _

pub length-words_in_lanes : (width : ℕ) (numbers : List ℕ) → length (words_in_lanes width numbers) ≡ 4 * width
unfolding words_in_lanes
length-words_in_lanes width numbers = length-woven width _

-- the number at an index of a lane is a field of the lane's bits
pub number_at : (width : ℕ) (words : List ℕ) (place lane : ℕ) → place < 32 → lane < 4 → get_or (numbers_in_lanes width words) (4 * place + lane) 0
    ≡ joined 32 (lane_of width lane words) / 2 ^ (place * width) % 2 ^ width
unfolding numbers_in_lanes numbers_in
number_at width words place lane h small =
    get_or-woven 32 _ place lane h small ∙ get_or-digits width 32 (joined 32 (lane_of width lane words)) place 0 h

-- the number at an index of a lane, if one word has all of its bits
pub number_within : (width : ℕ) (words : List ℕ) (place lane bit : ℕ) → Below 32 words → place < 32 → lane < 4 → bit ≡ place * width → bit / 32 < width →
    bit % 32 + width ≤ 32 → get_or (numbers_in_lanes width words) (4 * place + lane) 0 ≡ get_or words (4 * (bit / 32) + lane) 0 / 2 ^ (bit % 32) % 2 ^ width
number_within width words place lane bit below h small bit_is inside fits =
    let split : bit ≡ bit / 32 * 32 + bit % 32 = omega arith in
    let xs = lane_of width lane words in
    number_at width words place lane h small
    ∙ ap (λ b. joined 32 xs / 2 ^ b % 2 ^ width) (sym bit_is ∙ split)
    ∙ read_one 32 width (bit / 32) (bit % 32) xs (Below-lane_of 32 width lane words below) fits
    ∙ ap (λ x. x / 2 ^ (bit % 32) % 2 ^ width) (get_or-lane_of width lane words (bit / 32) inside)

-- the number at an index of a lane, if its bits span two words
pub number_across : (width : ℕ) (words : List ℕ) (place lane bit : ℕ) → Below 32 words → place < 32 → lane < 4 → bit ≡ place * width → bit / 32 + 1 < width →
    width ≤ 32 → get_or (numbers_in_lanes width words) (4 * place + lane) 0
    ≡ (get_or words (4 * (bit / 32 + 1) + lane) 0 * 2 ^ 32 + get_or words (4 * (bit / 32) + lane) 0) / 2 ^ (bit % 32) % 2 ^ width
number_across width words place lane bit below h small bit_is inside narrow =
    let split : bit ≡ bit / 32 * 32 + bit % 32 = omega arith in
    let xs = lane_of width lane words in
    let next : suc (bit / 32) ≡ bit / 32 + 1 = omega arith in
    number_at width words place lane h small
    ∙ ap (λ b. joined 32 xs / 2 ^ b % 2 ^ width) (sym bit_is ∙ split)
    ∙ read_two 32 width (bit / 32) (bit % 32) xs (Below-lane_of 32 width lane words below) (omega arith)
    ∙ (rw (next, get_or-lane_of width lane words (bit / 32 + 1) inside, get_or-lane_of width lane words (bit / 32) (omega arith)) refl)

pub no_width : (words : List ℕ) → numbers_in_lanes 0 words ≡ replicate 128 0
no_width words =
    same_number_lists (numbers_in_lanes 0 words) (replicate 128 0) (length-numbers_in_lanes 0 words) (λ k inside.
    let small : k < 128 = omega (arith, length-numbers_in_lanes 0 words) in
    let place : k ≡ 4 * (k / 4) + k % 4 = omega arith in
    ap (λ n. get_or (numbers_in_lanes 0 words) n 0) place
    ∙ number_at 0 words (k / 4) (k % 4) (omega arith) (omega arith)
    ∙ mod-one _
    ∙ sym (get_or-replicate 128 k 0 0 small))

-- words after the block do not change its numbers
pub numbers_in_lanes-append : (width : ℕ) (words more : List ℕ) → 4 * width ≤ length words →
    numbers_in_lanes width (words ++ more) ≡ numbers_in_lanes width words
numbers_in_lanes-append width words more long =
    same_number_lists (numbers_in_lanes width (words ++ more)) (numbers_in_lanes width words) (length-numbers_in_lanes width (words ++ more)
    ∙ sym (length-numbers_in_lanes width words)) (λ k inside.
    let small : k < 128 = omega (arith, length-numbers_in_lanes width (words ++ more)) in
    let place : k ≡ 4 * (k / 4) + k % 4 = omega arith in
    let low : k % 4 < 4 = omega arith in
    let row : k / 4 < 32 = omega arith in
    let same : lane_of width (k % 4) (words ++ more) ≡ lane_of width (k % 4) words =
    lane_same width (k % 4) (words ++ more) words (λ p near. get_or_append_left words more 0 (4 * p + k % 4) (omega arith)) in
    ap (λ n. get_or (numbers_in_lanes width (words ++ more)) n 0) place
    ∙ number_at width (words ++ more) (k / 4) (k % 4) row low
    ∙ ap (λ xs. joined 32 xs / 2 ^ (k / 4 * width) % 2 ^ width) same
    ∙ sym (number_at width words (k / 4) (k % 4) row low)
    ∙ ap (λ n. get_or (numbers_in_lanes width words) n 0) (sym place))

-- 32 numbers take a word for each bit of the width
length-lane_words : (width : ℕ) (xs : List ℕ) → length xs ≡ 32 → length (words_of 32 width xs) ≡ width
unfolding word_count
length-lane_words width xs long =
    length-words_of 32 width xs
    ∙ ap (λ n. (n * width + 31) / 32) long
    ∙ ap (λ n. (n + 31) / 32) (let e : 32 * width ≡ width * 32 = omega arith in e)
    ∙ div-mul-add width 32 31 (omega arith)

number_back : (width : ℕ) (numbers : List ℕ) (place lane : ℕ) → Below width numbers → place < 32 → lane < 4 →
    get_or (numbers_in_lanes width (words_in_lanes width numbers)) (4 * place + lane) 0 ≡ get_or numbers (4 * place + lane) 0
unfolding numbers_in_lanes words_in_lanes
number_back width numbers place lane below near small =
    let xs = lane_of 32 lane numbers in
    let long : length xs ≡ 32 = length-lane_of 32 lane numbers in
    let back : numbers_in 32 width 32 (words_of 32 width xs) ≡ xs =
    ap (λ n. numbers_in 32 width n (words_of 32 width xs)) (sym long)
    ∙ numbers_in-words_of 32 width xs (omega arith) (Below-lane_of width 32 lane numbers below) in
    get_or-woven 32 _ place lane near small
    ∙ ap (λ ws. get_or (numbers_in 32 width 32 ws) place 0) (lane_of-woven width (λ l. words_of 32 width (lane_of 32 l numbers)) lane small
    (length-lane_words width xs long))
    ∙ ap (λ ys. get_or ys place 0) back
    ∙ get_or-lane_of 32 lane numbers place near

-- the numbers that were packed are read back
pub numbers_in_lanes-words : (width : ℕ) (numbers : List ℕ) → length numbers ≤ 128 → All (λ x. x < 2 ^ width) numbers →
    take (length numbers) (numbers_in_lanes width (words_in_lanes width numbers)) ≡ numbers
numbers_in_lanes-words width numbers few fits =
    let whole = numbers_in_lanes width (words_in_lanes width numbers) in
    let long : length (take (length numbers) whole) ≡ length numbers =
    length-take-le (length numbers) whole (omega (arith, length-numbers_in_lanes width (words_in_lanes width numbers))) in
    same_number_lists (take (length numbers) whole) numbers long (λ k inside.
    let near : k < length numbers = omega (arith, long) in
    let place : k ≡ 4 * (k / 4) + k % 4 = omega arith in
    get_or-take (length numbers) whole k 0 near
    ∙ ap (λ n. get_or whole n 0) place
    ∙ number_back width numbers (k / 4) (k % 4) (Below-from_all width numbers fits) (omega arith) (omega arith)
    ∙ ap (λ n. get_or numbers n 0) (sym place))

-- the words of a lane are written for its first numbers
pub record IsLaneWritten (numbers : List ℕ) (lane width place : ℕ) (before out : List ℕ) (count pending filled : ℕ) : Type 0 where
  pub long : length out ≡ 128
  pub few : count ≤ 32
  pub written : IsWritten 32 width (take place (lane_of 32 lane numbers)) (lane_of count lane out) pending filled
  pub others : (i : ℕ) → i % 4 ≢ lane → get_or out i 0 ≡ get_or before i 0

pub lane_start : (numbers : List ℕ) (lane width : ℕ) (out : List ℕ) → length out ≡ 128 → IsLaneWritten numbers lane width 0 out out 0 0 0
unfolding lane_of
lane_start numbers lane width out long = record {
  long = long;
  few = omega arith;
  written = IsWritten-start 32 width (omega arith);
  others = λ i apart. refl;
}

-- the number of written bits
lane_bits : (numbers : List ℕ) (lane width place : ℕ) (before out : List ℕ) (count pending filled : ℕ) →
    IsLaneWritten numbers lane width place before out count pending filled → place ≤ 32 → count * 32 + filled ≡ place * width
lane_bits numbers lane width place before out count pending filled h near =
    ap (λ n. n * 32 + filled) (sym (length-lane_of count lane out)) ∙ h.written.bits
    ∙ ap (λ n. n * width) (length-take-le place (lane_of 32 lane numbers) (omega (arith, length-lane_of 32 lane numbers)))

-- a full word has its index among the words
pub lane_room : (numbers : List ℕ) (lane width place : ℕ) (before out : List ℕ) (count pending filled : ℕ) →
    IsLaneWritten numbers lane width place before out count pending filled → place < 32 → width ≤ 32 → count < 32
lane_room numbers lane width place before out count pending filled h near narrow =
    let most : place * width ≤ 31 * 32 = mul-le place width 31 32 (omega arith) narrow in
    omega (arith, most, lane_bits numbers lane width place before out count pending filled h (omega arith))

-- no bits are pending at the end
pub lane_end : (numbers : List ℕ) (lane width place : ℕ) (before out : List ℕ) (count pending filled : ℕ) →
    IsLaneWritten numbers lane width place before out count pending filled → place ≡ 32 → lane_of width lane out ≡ words_of 32 width (lane_of 32 lane numbers)
lane_end numbers lane width place before out count pending filled h end =
    let bits : count * 32 + filled ≡ 32 * width = lane_bits numbers lane width place before out count pending filled h (omega arith)
    ∙ ap (λ n. n * width) end in
    let full : count ≡ width = omega (arith, h.written.room) in
    let none : filled ≡ 0 = omega (arith, h.written.room) in
    let all : take place (lane_of 32 lane numbers) ≡ lane_of 32 lane numbers =
    take_all place (lane_of 32 lane numbers) (omega (arith, length-lane_of 32 lane numbers)) in
    ap (λ n. lane_of n lane out) (sym full) ∙ IsWritten-end 32 width (lane_of 32 lane numbers) (lane_of count lane out) pending filled (rw all at h.written)
    none

-- one more number of the lane, if the pending bits fill no word
pub lane_short : (numbers : List ℕ) (lane width place : ℕ) (before out : List ℕ) (count pending filled x p f : ℕ) →
    IsLaneWritten numbers lane width place before out count pending filled → place < 32 → width ≤ 32 → All (λ y. y < 2 ^ width) numbers →
    x ≡ get_or numbers (4 * place + lane) 0 → p ≡ bit_or pending (x * 2 ^ filled % 2 ^ 64) → f ≡ filled + width → filled + width < 32 →
    IsLaneWritten numbers lane width (place + 1) before out count p f
lane_short numbers lane width place before out count pending filled x p f h near narrow fits x_is p_is f_is short = record {
  long = h.long;
  few = h.few;
  written = written_short 32 width (lane_of 32 lane numbers) (lane_of count lane out) place pending filled x p f h.written
      (omega (arith, length-lane_of 32 lane numbers)) (x_is ∙ sym (get_or-lane_of 32 lane numbers place near)) (All-lane_of width 32 lane numbers fits) narrow
      p_is f_is short;
  others = h.others;
}

-- one more number of the lane, if the pending bits fill a word
pub lane_full : (numbers : List ℕ) (lane width place : ℕ) (before out : List ℕ) (count pending filled x p f whole low : ℕ) →
    IsLaneWritten numbers lane width place before out count pending filled → place < 32 → width ≤ 32 → All (λ y. y < 2 ^ width) numbers → lane < 4 →
    x ≡ get_or numbers (4 * place + lane) 0 → whole ≡ bit_or pending (x * 2 ^ filled % 2 ^ 64) → low ≡ bit_and whole (2 ^ 32 - 1) → p ≡ whole / 2 ^ 32 →
    f ≡ filled + width - 32 → 32 ≤ filled + width → IsLaneWritten numbers lane width (place + 1) before (set out (4 * count + lane) low) (count + 1) p f
lane_full numbers lane width place before out count pending filled x p f whole low h near narrow fits small x_is whole_is low_is p_is f_is full =
    let at = 4 * count + lane in
    let room : count < 32 = lane_room numbers lane width place before out count pending filled h near narrow in
    record {
      long = length-set out at low ∙ h.long;
      few = omega arith;
      written = written_full 32 width (lane_of 32 lane numbers) (lane_of count lane out) (lane_of (count + 1) lane (set out at low)) place pending filled x p f
          whole low h.written (omega (arith, length-lane_of 32 lane numbers)) (x_is ∙ sym (get_or-lane_of 32 lane numbers place near))
          (All-lane_of width 32 lane numbers fits) narrow whole_is low_is (lane_written count lane low out (omega (arith, h.long))) p_is f_is full;
      others = λ i apart. get_or-set_other out at i low 0 (λ e. apart (omega (arith, e))) ∙ h.others i apart;
    }

-- the lanes before one that is written are unchanged
pub lanes_kept : (count lane : ℕ) (out out' : List ℕ) (lanes : ℕ → List ℕ) → lane < 4 → ((k : ℕ) → k < lane → lane_of count k out ≡ lanes k) →
    ((i : ℕ) → i % 4 ≢ lane → get_or out' i 0 ≡ get_or out i 0) → lane_of count lane out' ≡ lanes lane → (k : ℕ) → k < lane + 1 → lane_of count k out' ≡ lanes k
lanes_kept count lane out out' lanes small h others here k below =
    elim (cases_lt k lane) [
      | inl before ↦ lane_same count k out' out (λ place near. others (4 * place + k) (omega arith)) ∙ h k before
      | inr at ↦ (let e : k ≡ lane = omega arith in ap (λ n. lane_of count n out') e ∙ here ∙ ap lanes (sym e))
    ]

-- four lanes that are written are the words of the block
pub lanes_whole : (width : ℕ) (numbers out : List ℕ) (lane : ℕ) → length out ≡ 128 → width ≤ 32 → 4 ≤ lane →
    ((k : ℕ) → k < lane → lane_of width k out ≡ words_of 32 width (lane_of 32 k numbers)) → take (4 * width) out ≡ words_in_lanes width numbers
unfolding words_in_lanes
lanes_whole width numbers out lane long narrow all each =
    woven-lanes width (λ k. words_of 32 width (lane_of 32 k numbers)) out (omega arith) (λ k small. each k (omega arith))
