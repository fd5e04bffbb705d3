-- Single bits in words, and the change that writing one makes.
use Rattle.std.proofs.Common.{◌≡◌, ◌||◌, ℕ, zero, suc, ◌+◌, ◌-◌, ◌*◌, ◌/◌, ◌%◌, ◌^◌, ◌<◌, ◌≤◌, ◌≢◌, inl, inr, List, [], ◌∷◌, ◌++◌, Bool, true, false, ◌==◌}
use Rattle.std.proofs.Common.{replicate, slice_get, Some, length, get_or, take, drop, set, bit_and, bit_or, count_by, refl, sym, ap, ap₂, ◌∙◌, subst, arith}
use Rattle.std.proofs.Common.{mul-one, mod-eq_of_lt, suc-mul, lit<, cond, lt_of_le_of_lt, Decides}
use Rattle.std.proofs.lemmas.List.Folds.{sum_by-replicate}
use Rattle.std.proofs.lemmas.List.Sums.{count_by-le-length, sum_by-cons, sum_by-set}
use Rattle.std.specs.Int.{bit_at, w64}
use Rattle.std.proofs.lemmas.Nat.{pow_pos, mod_below, shr_split, div-add-mod', pow-add, one_shl, pow_below, or_lt, and_le_l, mod_low}
use mir.Val.{bool_byte}
use Rattle.std.proofs.lemmas.Nat.Bits.{same_from_bits, bit_at_above, bit_at_cat_low, bit_at_ones, bit_at-zero, bit_at_set_same, bit_at_set_other}
use Rattle.std.proofs.lemmas.Nat.Bits.{bit_at_clear_same, bit_at_clear_other, shr_and_one, bit_at_lowest, bit_at-suc}
use Rattle.std.proofs.lemmas.List.{take_all, get_or-take, get_or-drop, get_or-map, ext_get_or, length-set, length-map, get_or-set_same, get_or-set_other}
use Rattle.std.proofs.lemmas.List.{get_or-replicate, get_or_past, length-replicate, replicate_more, set_at, length_push}
use Rattle.std.proofs.lemmas.Option.{get_or_from_slice_get, slice_get-get_or}
use Rattle.std.proofs.lemmas.Bool.{cases_lt, cases_eq, eq-eqb, ne_eqb}
use Rattle.std.specs.List.{list_all, list_any}
use Rattle.std.proofs.lemmas.List.Folds.{list_any_more}
use Rattle.std.proofs.lemmas.Bool.Decides.{same_from_decides, Decides-eqb}
use Rattle.std.proofs.lemmas.Slice.Eq.{slice_eq-Decides}
use Rattle.std.specs.Cmp.{booleans_Decides}
use Rattle.std.specs.Cmp.Lexicographic.{pointwise}
use Rattle.std.proofs.Math.Bool.{beq}
use Rattle.std.proofs.Math.Dec.{eqb-suc-suc}
use Rattle.fts_pack.specs.bits.Digits.{joined, digits, word_count, words_of, numbers_in}
use Rattle.fts_pack.specs.bits.Bits.{IsBits, flags, marks, number_of}
use Rattle.fts_pack.proofs.DigitsLemmas.{Below, Below-push, read_one, get_or-digits, length-digits, joined-append, joined-digits, digits-joined, joined-drop}
use Rattle.fts_pack.proofs.DigitsLemmas.{joined-drop_split, joined-take}
use Rattle.fts_pack.proofs.PackingLemmas.{Below-drop, length-numbers_in}

-- the greatest number of 64 bits
abbrev pub all_ones : ℕ
all_ones = 18446744073709551615

-- bit i of the words, as a bit of one word
pub bit_in_word : (words : List ℕ) (i : ℕ) → Below 64 words → bit_at (joined 64 words) i ≡ bit_at (get_or words (i / 64) 0) (i % 64)
bit_in_word words i below =
    let start : i % 64 < 64 = mod_below i 64 (omega arith) in
    ap (λ n. joined 64 words / 2 ^ n % 2) (sym (div-add-mod' i 64)) ∙ read_one 64 1 (i / 64) (i % 64) words below (omega arith)

-- boolean i is bit i of the words
pub flag_at : (len i : ℕ) (words : List ℕ) (d : Bool) → i < len → get_or (flags (numbers_in 64 1 len words)) i d ≡ (bit_at (joined 64 words) i == 1)
unfolding numbers_in
flag_at len i words d inside =
    let n = joined 64 words in
    get_or-map (λ x. x == 1) (digits 1 len n) i 0 d (rw (length-digits 1 len n) inside)
    ∙ ap (λ x. x == 1) (get_or-digits 1 len n i 0 inside ∙ ap (λ p. n / 2 ^ p % 2) (mul-one i))

pub length-flags : (len : ℕ) (words : List ℕ) → length (flags (numbers_in 64 1 len words)) ≡ len
length-flags len words =
    length-map (numbers_in 64 1 len words) (λ d. d == 1) ∙ length-numbers_in 64 1 len words

pub flag_read : (len i : ℕ) (words : List ℕ) → i < len → Below 64 words →
    slice_get (flags (numbers_in 64 1 len words)) i ≡ Some (bit_and (get_or words (i / 64) 0 / 2 ^ (i % 64)) 1 == 1)
flag_read len i words inside below =
    slice_get-get_or (flags (numbers_in 64 1 len words)) i false (rw (length-flags len words) inside)
    ∙ ap Some (flag_at len i words false inside ∙ ap (λ b. b == 1) (bit_in_word words i below ∙ sym (shr_and_one (get_or words (i / 64) 0) (i % 64))))

-- the word of a bit is one of the words
pub word_inside : (len i : ℕ) → i < len → i / 64 < word_count 64 len
unfolding word_count
word_inside len i inside = grind arith

-- a number without bits from a position on is small
pub small_from_bits : (n len : ℕ) → ((i : ℕ) → len ≤ i → bit_at n i ≡ 0) → n < 2 ^ len
small_from_bits n len none =
    let low = n % 2 ^ len in
    let low_small : low < 2 ^ len = mod_below n (2 ^ len) (pow_pos len) in
    let same : n ≡ low = same_from_bits n low (λ i. elim (cases_lt i len) [
      | inl below ↦ ap (λ m. bit_at m i) (sym (shr_split n len)) ∙ bit_at_cat_low (n / 2 ^ len) len low i below
      | inr above ↦ none i above ∙ sym (bit_at_above low len i low_small above)
    ]) in
    subst (λ m. m < 2 ^ len) (sym same) low_small

-- one bit of the words has a new value, and the others are unchanged
pub record IsBitWritten (words after : List ℕ) (place bit : ℕ) : Type 0 where
  pub count : length after ≡ length words
  pub fits : Below 64 after
  pub same : bit_at (joined 64 after) place ≡ bit
  pub others : (i : ℕ) → i ≢ place → bit_at (joined 64 after) i ≡ bit_at (joined 64 words) i

pub bit_written : (words : List ℕ) (place word bit : ℕ) → Below 64 words → place / 64 < length words → word < 2 ^ 64 → bit_at word (place % 64) ≡ bit →
    ((i : ℕ) → i < 64 → i ≢ place % 64 → bit_at word i ≡ bit_at (get_or words (place / 64) 0) i) → IsBitWritten words (set words (place / 64) word) place bit
bit_written words place word bit below inside small same others =
    let after = set words (place / 64) word in
    let fits : Below 64 after = λ i. elim (cases_eq i (place / 64)) [ inl e ↦ (rw (e, get_or-set_same) small) | inr ne ↦ (rw get_or-set_other (below i)) ] in
    record {
      count = length-set words (place / 64) word;
      fits = fits;
      same = bit_in_word after place fits ∙ (rw get_or-set_same same);
      others = λ i ne. bit_in_word after i fits ∙ (elim (cases_eq (i / 64) (place / 64)) [
        | inl e ↦ (let apart : i % 64 ≢ place % 64 = λ r. ne (omega (arith, e, r)) in rw (e, get_or-set_same)
            (others (i % 64) (mod_below i 64 (omega arith)) apart))
        | inr away ↦ (rw get_or-set_other refl)
      ]) ∙ sym (bit_in_word words i below);
    }

-- the booleans after a bit is written
pub IsBits-written : (len place bit : ℕ) (words after : List ℕ) → IsBits len words → place < len → IsBitWritten words after place bit → IsBits len after
IsBits-written len place bit words after h inside w = record {
  len_fits = h.len_fits;
  count = w.count ∙ h.count;
  fits = w.fits;
  unused = small_from_bits (joined 64 after) len (λ i above. let ne : i ≢ place = omega arith in w.others i ne ∙ bit_at_above (joined 64 words) len i h.unused
      above);
}

pub flags-written : (len place bit : ℕ) (words after : List ℕ) → place < len → IsBitWritten words after place bit →
    flags (numbers_in 64 1 len after) ≡ set (flags (numbers_in 64 1 len words)) place (bit == 1)
flags-written len place bit words after inside w =
    let before = flags (numbers_in 64 1 len words) in
    ext_get_or false (flags (numbers_in 64 1 len after)) (set before place (bit == 1))
    (length-flags len after ∙ sym (length-set before place (bit == 1) ∙ length-flags len words))
    (λ i lt. let within : i < len = omega (arith, length-flags len after) in
    let whole : place < length before = omega (arith, length-flags len words) in
    flag_at len i after false within ∙ (elim (cases_eq i place) [
      | inl e ↦ (rw (e, get_or-set_same) (ap (λ b. b == 1) w.same))
      | inr ne ↦ (rw get_or-set_other (ap (λ b. b == 1) (w.others i ne) ∙ sym (flag_at len i words false within)))
    ]))

-- every bit of whole words is 1
joined-replicate_ones : (count : ℕ) → joined 64 (replicate count all_ones) + 1 ≡ 2 ^ (count * 64)
unfolding joined
joined-replicate_ones zero = refl
joined-replicate_ones (suc count) =
    let e : 2 ^ (suc count * 64) ≡ 2 ^ (count * 64) * 2 ^ 64 = ap (λ b. 2 ^ b) (suc-mul count 64) ∙ pow-add 2 (count * 64) 64 in
    rw e (omega (arith, joined-replicate_ones count))

joined-replicate_zero : (count : ℕ) → joined 64 (replicate count 0) ≡ 0
unfolding joined
joined-replicate_zero zero = refl
joined-replicate_zero (suc count) = omega (arith, joined-replicate_zero count)

-- the words of a bit vector with every bit set
pub record AreFull (len : ℕ) (words : List ℕ) : Type 0 where
  pub count : length words ≡ word_count 64 len
  pub fits : Below 64 words
  pub number : joined 64 words + 1 ≡ 2 ^ len

Below-replicate : (count x : ℕ) → x < 2 ^ 64 → Below 64 (replicate count x)
Below-replicate zero x small i = pow_pos 64
Below-replicate (suc count) x small zero = small
Below-replicate (suc count) x small (suc i) = Below-replicate count x small i

pub AreFull-whole : (len : ℕ) → len % 64 ≡ 0 → AreFull len (replicate (word_count 64 len) all_ones)
unfolding word_count
AreFull-whole len whole =
    let count : word_count 64 len * 64 ≡ len = omega (arith, whole) in
    record {
      count = length-replicate (word_count 64 len) all_ones;
      fits = Below-replicate (word_count 64 len) all_ones (lit< tt);
      number = joined-replicate_ones (word_count 64 len) ∙ ap (λ b. 2 ^ b) count;
    }

pub AreFull-rest : (len : ℕ) → 0 < len % 64 →
    AreFull len (set (replicate (word_count 64 len) all_ones) (len / 64) (1 * 2 ^ (len % 64) % 18446744073709551616 - 1))
unfolding word_count joined
AreFull-rest len some =
    let whole = replicate (len / 64) all_ones in
    let last = 1 * 2 ^ (len % 64) % 18446744073709551616 - 1 in
    let last_is : last ≡ 2 ^ (len % 64) - 1 = ap (λ n. n - 1) (one_shl (len % 64) 64 (mod_below len 64 (omega arith))) in
    let count : word_count 64 len ≡ len / 64 + 1 = omega arith in
    let words : replicate (word_count 64 len) all_ones ≡ whole ++ all_ones ∷ [] =
    ap (λ n. replicate n all_ones) count ∙ sym (replicate_more (len / 64) all_ones) in
    let after : set (replicate (word_count 64 len) all_ones) (len / 64) last ≡ whole ++ last ∷ [] =
    ap (λ xs. set xs (len / 64) last) words ∙ set_at whole all_ones [] last (len / 64) (length-replicate (len / 64) all_ones) in
    let pow : 2 ^ len ≡ 2 ^ (len % 64) * 2 ^ (len / 64 * 64) = ap (λ b. 2 ^ b) (omega arith) ∙ pow-add 2 (len % 64) (len / 64 * 64) in
    let size : length whole ≡ len / 64 = length-replicate (len / 64) all_ones in
    let small : last < 2 ^ 64 = rw last_is (omega (arith, pow_below (len % 64) 64 (mod_below len 64 (omega arith)))) in
    let top : last + 1 ≡ 2 ^ (len % 64) = omega (arith, last_is, pow_pos (len % 64)) in
    let joined_is : joined 64 (whole ++ last ∷ []) ≡ (0 * 2 ^ 64 + last) * 2 ^ (len / 64 * 64) + joined 64 whole =
    joined-append 64 whole (last ∷ []) ∙ ap (λ k. (0 * 2 ^ 64 + last) * 2 ^ (k * 64) + joined 64 whole) size in
    record {
      count = rw after (length_push whole last ∙ omega (arith, size, count));
      fits = rw after (Below-push 64 last whole (Below-replicate (len / 64) all_ones (lit< tt)) small);
      number = ap (λ xs. joined 64 xs + 1) after ∙ omega (arith, joined_is, joined-replicate_ones (len / 64), ap (λ n. n * 2 ^ (len / 64 * 64)) top, pow);
    }

pub IsBits-full : (len : ℕ) (words : List ℕ) → len < 2 ^ 64 → AreFull len words → IsBits len words
IsBits-full len words len_fits h = record { len_fits = len_fits; count = h.count; fits = h.fits; unused = omega (arith, h.number) }

pub flags-full : (len : ℕ) (words : List ℕ) → AreFull len words → flags (numbers_in 64 1 len words) ≡ replicate len true
flags-full len words h =
    let number : joined 64 words ≡ 2 ^ len - 1 = omega (arith, h.number) in
    ext_get_or false (flags (numbers_in 64 1 len words)) (replicate len true)
    (length-flags len words ∙ sym (length-replicate len true))
    (λ i lt. let inside : i < len = omega (arith, length-flags len words) in
    flag_at len i words false inside ∙ ap (λ n. bit_at n i == 1) number ∙ ap (λ b. b == 1) (bit_at_ones len i inside)
    ∙ sym (get_or-replicate len i true false inside))

pub IsBits-empty : (len : ℕ) → len < 2 ^ 64 → IsBits len (replicate (word_count 64 len) 0)
IsBits-empty len len_fits = record {
  len_fits = len_fits;
  count = length-replicate (word_count 64 len) 0;
  fits = Below-replicate (word_count 64 len) 0 (lit< tt);
  unused = rw (joined-replicate_zero (word_count 64 len)) (pow_pos len);
}

pub flags-empty : (len : ℕ) → flags (numbers_in 64 1 len (replicate (word_count 64 len) 0)) ≡ replicate len false
flags-empty len =
    let words = replicate (word_count 64 len) 0 in
    ext_get_or false (flags (numbers_in 64 1 len words)) (replicate len false)
    (length-flags len words ∙ sym (length-replicate len false))
    (λ i lt. let inside : i < len = omega (arith, length-flags len words) in
    flag_at len i words false inside ∙ ap (λ n. bit_at n i == 1) (joined-replicate_zero (word_count 64 len)) ∙ ap (λ b. b == 1) (bit_at-zero i)
    ∙ sym (get_or-replicate len i false false inside))

-- a digit is 1 if its boolean is true
flag_counts : (n : ℕ) → cond (n % 2 == 1) 1 0 ≡ n % 2
flag_counts n = go (n % 2) (mod_below n 2 (omega arith)) where
  go : (d : ℕ) → d < 2 → cond (d == 1) 1 0 ≡ d
  go zero h = refl
  go (suc zero) h = refl
  go (suc (suc d)) h = absurd (omega arith)

Below-marks : (bits : List Bool) → Below 1 (marks bits)
Below-marks [] i = pow_pos 1
Below-marks (true ∷ bits) zero = lit< tt
Below-marks (false ∷ bits) zero = lit< tt
Below-marks (b ∷ bits) (suc i) = Below-marks bits i

-- digits to base 2 and their booleans are the same
pub marks-flags : (count n : ℕ) → marks (flags (digits 1 count n)) ≡ digits 1 count n
unfolding digits
marks-flags zero n = refl
marks-flags (suc count) n = ap₂ (λ x xs. x ∷ xs) (flag_counts n) (marks-flags count (n / 2))

-- the words are determined by the booleans
pub words-from_flags : (len : ℕ) (words : List ℕ) → IsBits len words → words ≡ words_of 64 1 (marks (flags (numbers_in 64 1 len words)))
unfolding words_of numbers_in
words-from_flags len words h =
    let n = joined 64 words in
    let size : length (marks (flags (digits 1 len n))) * 1 ≡ len = ap (λ xs. length xs * 1) (marks-flags len n) ∙ ap (λ k. k * 1) (length-digits 1 len n)
    ∙ mul-one len in
    let bits : 2 ^ (len * 1) ≡ 2 ^ len = ap (λ b. 2 ^ b) (mul-one len) in
    let number : joined 1 (marks (flags (digits 1 len n))) ≡ n = ap (joined 1) (marks-flags len n) ∙ joined-digits 1 len n ∙ ap (λ p. n % p) bits
    ∙ mod-eq_of_lt h.unused in
    sym (ap₂ (λ b m. digits 64 (word_count 64 b) m) size number ∙ ap (λ c. digits 64 c n) (sym h.count) ∙ digits-joined 64 words h.fits)

-- booleans as a number are the joined words
pub number_of-flags : (len : ℕ) (words : List ℕ) → IsBits len words → number_of (flags (numbers_in 64 1 len words)) ≡ joined 64 words
unfolding numbers_in
number_of-flags len words h =
    let n = joined 64 words in
    ap (joined 1) (marks-flags len n) ∙ joined-digits 1 len n ∙ ap (λ b. n % 2 ^ b) (mul-one len) ∙ mod-eq_of_lt h.unused

marks-take : (count : ℕ) (bits : List Bool) → marks (take count bits) ≡ take count (marks bits)
marks-take zero bits = refl
marks-take (suc count) [] = refl
marks-take (suc count) (bit ∷ bits) = ap (λ xs. cond bit 1 0 ∷ xs) (marks-take count bits)

marks-drop : (count : ℕ) (bits : List Bool) → marks (drop count bits) ≡ drop count (marks bits)
marks-drop zero bits = refl
marks-drop (suc count) [] = refl
marks-drop (suc count) (bit ∷ bits) = marks-drop count bits

-- a range of booleans is a range of the bits of their number
pub number_of-part : (bits : List Bool) (start count : ℕ) → number_of (take count (drop start bits)) ≡ number_of bits / 2 ^ start % 2 ^ count
number_of-part bits start count =
    let all = marks bits in
    ap (joined 1) (marks-take count (drop start bits) ∙ ap (take count) (marks-drop start bits))
    ∙ joined-take 1 count (drop start all) (Below-drop 1 start all (Below-marks bits))
    ∙ ap₂ (λ n b. n % 2 ^ b) (sym (joined-drop 1 start all (Below-marks bits)) ∙ ap (λ b. joined 1 all / 2 ^ b) (mul-one start)) (mul-one count)

-- one of the words is a range of the booleans
pub word_read : (len index : ℕ) (words : List ℕ) → IsBits len words →
    get_or words index 0 ≡ number_of (take 64 (drop (64 * index) (flags (numbers_in 64 1 len words))))
word_read len index words h =
    let rest = joined 64 (drop (suc index) words) in
    let at : joined 64 words / 2 ^ (index * 64) ≡ rest * 2 ^ 64 + get_or words index 0 = joined-drop 64 index words h.fits ∙ joined-drop_split 64 index words in
    let turned : 64 * index ≡ index * 64 = omega arith in
    sym (number_of-part (flags (numbers_in 64 1 len words)) (64 * index) 64
    ∙ ap₂ (λ n b. n / 2 ^ b % 2 ^ 64) (number_of-flags len words h) turned
    ∙ ap (λ n. n % 2 ^ 64) at
    ∙ mod_low rest 64 (get_or words index 0) (h.fits index))

-- equal booleans are in equal words
pub words-unique : (len : ℕ) (words others : List ℕ) → IsBits len words → IsBits len others →
    flags (numbers_in 64 1 len words) ≡ flags (numbers_in 64 1 len others) → words ≡ others
words-unique len words others h g same =
    words-from_flags len words h ∙ ap (λ bits. words_of 64 1 (marks bits)) same ∙ sym (words-from_flags len others g)

-- writing one bit of a word sets or clears that bit of the words
pub bit_put : (bit : Bool) (words : List ℕ) (place n : ℕ) → Below 64 words → place / 64 < length words → n ≡ get_or words (place / 64) 0 →
    IsBitWritten words (set words (place / 64) (cond bit (bit_or n (1 * 2 ^ (place % 64) % 2 ^ 64)) (bit_and n (all_ones - 1 * 2 ^ (place % 64) % 2 ^ 64))))
    place (cond bit 1 0)
bit_put true words place n below inside n_is =
    let start : place % 64 < 64 = mod_below place 64 (omega arith) in
    let small : n < 2 ^ 64 = rw n_is (below (place / 64)) in
    bit_written words place (bit_or n (1 * 2 ^ (place % 64) % 2 ^ 64)) 1 below inside
    (or_lt 64 n (1 * 2 ^ (place % 64) % 2 ^ 64) small (mod_below (1 * 2 ^ (place % 64)) (2 ^ 64) (pow_pos 64))) (bit_at_set_same w64 n (place % 64) start)
    (λ i lt ne. bit_at_set_other w64 n (place % 64) start i ne ∙ ap (λ m. bit_at m i) n_is)
bit_put false words place n below inside n_is =
    let start : place % 64 < 64 = mod_below place 64 (omega arith) in
    let small : n < 2 ^ 64 = rw n_is (below (place / 64)) in
    let mask = all_ones - 1 * 2 ^ (place % 64) % 2 ^ 64 in
    bit_written words place (bit_and n mask) 0 below inside (lt_of_le_of_lt (and_le_l n mask) small) (bit_at_clear_same w64 n (place % 64) start)
    (λ i lt ne. bit_at_clear_other w64 n (place % 64) start i lt ne ∙ ap (λ m. bit_at m i) n_is)

-- a document's bit, and the word that it is in, exist
pub doc_inside : (len doc : ℕ) (words : List ℕ) (value : List Bool) → flags (numbers_in 64 1 len words) ≡ value → IsBits len words → doc < length value →
    (doc < len) × (doc / 64 < length words)
doc_inside len doc words value view h inside =
    let within : doc < len = omega (arith, ap length view, length-flags len words) in
    (within, rw h.count (word_inside len doc within))

-- writing one bit leaves words of a bit vector, with the other bits unchanged
pub bits-put : (bit : Bool) (len doc n : ℕ) (words : List ℕ) (value : List Bool) → flags (numbers_in 64 1 len words) ≡ value → IsBits len words →
    doc < length value → n ≡ get_or words (doc / 64) 0 → let after =
    set words (doc / 64) (cond bit (bit_or n (1 * 2 ^ (doc % 64) % 2 ^ 64)) (bit_and n (all_ones - 1 * 2 ^ (doc % 64) % 2 ^ 64))) in
    IsBits len after × (flags (numbers_in 64 1 len after) ≡ set value doc bit)
bits-put bit len doc n words value view h inside n_is =
    let place = doc_inside len doc words value view h inside in
    let written = bit_put bit words doc n h.fits place.1 n_is in
    let same : (b : Bool) → (cond b 1 0 == 1) ≡ b = elim [ true ↦ refl | false ↦ refl ] in (
      IsBits-written len doc (cond bit 1 0) words _ h place.0 written,
      flags-written len doc (cond bit 1 0) words _ place.0 written
          ∙ ap (set (flags (numbers_in 64 1 len words)) doc) (same bit) ∙ ap (λ v. set v doc bit) view,
    )

pub rest_inside : (len : ℕ) → 0 < len % 64 → len / 64 < word_count 64 len
unfolding word_count
rest_inside len some = omega arith

-- the result of `==` for two bit vectors
pub eq_same_len : (len other : ℕ) (words others : List ℕ) (v w : List Bool) (r : Bool) → flags (numbers_in 64 1 len words) ≡ v →
    flags (numbers_in 64 1 other others) ≡ w → IsBits len words → IsBits other others → len ≡ other → Decides r (words ≡ others) → r ≡ pointwise beq v w
eq_same_len len other words others v w r v_is w_is h g same d =
    let by_words : Decides r (v ≡ w) = (
      λ e. sym v_is ∙ ap₂ (λ n xs. flags (numbers_in 64 1 n xs)) same (d.0 e) ∙ w_is,
      λ e. d.1 (words-unique len words others h (subst (λ n. IsBits n others) (sym same) g) (v_is ∙ e ∙ sym w_is ∙ ap (λ n. flags (numbers_in 64 1 n others))
          (sym same))),
    ) in
    same_from_decides r (pointwise beq v w) by_words (slice_eq-Decides booleans_Decides v w (pointwise beq v w) refl)

pub eq_other_len : (len other : ℕ) (words others : List ℕ) (v w : List Bool) → flags (numbers_in 64 1 len words) ≡ v →
    flags (numbers_in 64 1 other others) ≡ w → len ≢ other → (len == other) ≡ pointwise beq v w
eq_other_len len other words others v w v_is w_is differ =
    let by_len : Decides (len == other) (v ≡ w) = (
      λ e. absurd (differ ((Decides-eqb len other).0 e)),
      λ e. absurd (differ (sym (length-flags len words) ∙ ap length (v_is ∙ e ∙ sym w_is) ∙ length-flags other others)),
    ) in
    same_from_decides (len == other) (pointwise beq v w) by_len (slice_eq-Decides booleans_Decides v w (pointwise beq v w) refl)

-- the count of set bits after one is written
abbrev pub one_if : Bool → ℕ
one_if bit = cond bit 1 0

pub byte_is : (bit : Bool) → bool_byte bit ≡ one_if bit
byte_is true = refl
byte_is false = refl

module _ (bits : List Bool) (doc : ℕ) (was : Bool) (inside : doc < length bits) (there : slice_get bits doc ≡ Some was) where
  digit_there : one_if (get_or bits doc false) ≡ one_if was
  digit_there = ap one_if (get_or_from_slice_get bits doc was false there)

  pub ones_above : one_if was ≤ count_by (λ bit. bit) bits
  ones_above = omega (arith, sum_by-set one_if bits doc false false inside, digit_there)

  pub ones_put : (bit : Bool) (after : List Bool) (ones x y : ℕ) → ones ≡ count_by (λ b. b) bits → x ≡ one_if was → y ≡ one_if bit → after ≡ set bits doc bit →
      ones - x + y ≡ count_by (λ b. b) after
  ones_put bit after ones x y is x_is y_is put =
      let sum : ones - x + y ≡ count_by (λ b. b) (set bits doc bit) =
      omega (arith, ones_above, sum_by-set one_if bits doc bit false inside, digit_there, is, x_is, y_is) in
      sum ∙ ap (count_by (λ b. b)) (sym put)

  -- there are no more set bits than bits
  pub ones_room : (bit : Bool) (ones x y : ℕ) → ones ≡ count_by (λ b. b) bits → x ≡ one_if was → y ≡ one_if bit → ones - x + y ≤ length bits
  ones_room bit ones x y is x_is y_is =
      omega (arith, ones_put bit (set bits doc bit) ones x y is x_is y_is refl, count_by-le-length (λ b. b) (set bits doc bit), length-set bits doc bit)

-- the count of equal bits
pub ones_replicated : (bits : List Bool) (n : ℕ) (b : Bool) → bits ≡ replicate n b → n * one_if b ≡ count_by (λ bit. bit) bits
ones_replicated bits n b is = sym (ap (count_by (λ bit. bit)) is ∙ sum_by-replicate one_if n b)

-- a digit of booleans as a number is 1 if its boolean is true
bit_at-number_of : (bits : List Bool) (k : ℕ) → bit_at (number_of bits) k ≡ cond (get_or bits k false) 1 0
unfolding joined
bit_at-number_of [] k = bit_at-zero k
bit_at-number_of (true ∷ bits) zero = bit_at_lowest (number_of (true ∷ bits)) ∙ omega arith
bit_at-number_of (false ∷ bits) zero = bit_at_lowest (number_of (false ∷ bits)) ∙ omega arith
bit_at-number_of (true ∷ bits) (suc k) =
    let half : (number_of bits * 2 ^ 1 + 1) / 2 ≡ number_of bits = omega arith in
    bit_at-suc (number_of (true ∷ bits)) k ∙ ap (λ n. bit_at n k) half ∙ bit_at-number_of bits k
bit_at-number_of (false ∷ bits) (suc k) =
    let half : (number_of bits * 2 ^ 1 + 0) / 2 ≡ number_of bits = omega arith in
    bit_at-suc (number_of (false ∷ bits)) k ∙ ap (λ n. bit_at n k) half ∙ bit_at-number_of bits k

-- a bit of a word is the boolean of its document
pub word_bit : (bits : List Bool) (start word k : ℕ) → word ≡ number_of (take 64 (drop start bits)) → k < 64 →
    (bit_at word k == 1) ≡ get_or bits (start + k) false
word_bit bits start word k is inside =
    let one : (b : Bool) → (cond b 1 0 == 1) ≡ b = elim [ true ↦ refl | false ↦ refl ] in
    let part = take 64 (drop start bits) in
    ap (λ n. bit_at n k == 1) is ∙ ap (λ n. n == 1) (bit_at-number_of part k) ∙ one (get_or part k false)
    ∙ get_or-take 64 (drop start bits) k false inside ∙ get_or-drop start bits k false

-- the bits after those of the first documents were set
pub record AreSet (old new : List Bool) (docs : List ℕ) : Type 0 where
  pub len : length new ≡ length old
  pub set_are : (d : ℕ) → get_or new d false ≡ (get_or old d false || list_any (λ x. x == d) docs)

or-false : (b : Bool) → (b || false) ≡ b
or-false true = refl
or-false false = refl

pub AreSet-none : (bits : List Bool) (docs : List ℕ) → AreSet bits bits (take 0 docs)
AreSet-none bits docs = record { len = refl; set_are = λ d. sym (or-false (get_or bits d false)) }

or_same : (a b : Bool) → (a || (b || true)) ≡ true
or_same true b = refl
or_same false true = refl
or_same false false = refl

or_false : (a b : Bool) → (a || (b || false)) ≡ (a || b)
or_false true b = refl
or_false false true = refl
or_false false false = refl

pub AreSet-more : (old new after : List Bool) (docs : List ℕ) (i doc : ℕ) → AreSet old new (take i docs) → i < length docs → doc ≡ get_or docs i 0 →
    doc < length old → after ≡ set new doc true → AreSet old after (take (i + 1) docs)
AreSet-more old new after docs i doc h inside is there put = record {
  len = ap length put ∙ length-set new doc true ∙ h.len;
  set_are = λ d.
      let room : doc < length new = omega (arith, there, h.len) in
      let more : list_any (λ x. x == d) (take (i + 1) docs) ≡ (list_any (λ x. x == d) (take i docs) || (doc == d)) =
      list_any_more (λ x. x == d) docs i 0 inside ∙ ap (λ x. list_any (λ x. x == d) (take i docs) || (x == d)) (sym is) in
      ap (λ v. get_or v d false) put ∙ (elim (cases_eq d doc) [
        | inl e ↦ (
            let same : (doc == d) ≡ true = rw e (eq-eqb doc doc refl) in
            (rw (e, get_or-set_same) refl) ∙ sym (or_same (get_or old d false) (list_any (λ x. x == d) (take i docs)))
            ∙ ap (λ b. get_or old d false || (list_any (λ x. x == d) (take i docs) || b)) (sym same) ∙ ap (λ b. get_or old d false || b) (sym more)
            )
        | inr ne ↦ (
            let other : (doc == d) ≡ false = ne_eqb doc d (λ e. ne (sym e)) in
            (rw get_or-set_other (h.set_are d)) ∙ sym (or_false (get_or old d false) (list_any (λ x. x == d) (take i docs)))
            ∙ ap (λ b. get_or old d false || (list_any (λ x. x == d) (take i docs) || b)) (sym other) ∙ ap (λ b. get_or old d false || b) (sym more)
            )
      ]);
}

pub AreSet-all : (old new : List Bool) (docs : List ℕ) (i : ℕ) → AreSet old new (take i docs) → length docs ≤ i → AreSet old new docs
AreSet-all old new docs i h past = subst (AreSet old new) (take_all i docs past) h

-- a set bit exists
pub set_inside : (bits : List Bool) (doc : ℕ) → get_or bits doc false ≡ true → doc < length bits
set_inside bits doc set = elim (cases_lt doc (length bits)) [
  | inl inside ↦ inside
  | inr past ↦ absurd (let no : false ≡ true = sym (get_or_past bits doc false past) ∙ set in cc)
]

-- the count of set bits is the length exactly if each is set
pub all_counted : (bits : List Bool) → (count_by (λ bit. bit) bits == length bits) ≡ list_all (λ bit. bit) bits
all_counted [] = refl
all_counted (true ∷ bits) =
    let one : count_by (λ bit. bit) (true ∷ bits) ≡ suc (count_by (λ bit. bit) bits) = sum_by-cons one_if true bits ∙ omega arith in
    ap (λ n. n == suc (length bits)) one ∙ eqb-suc-suc (count_by (λ bit. bit) bits) (length bits) ∙ all_counted bits
all_counted (false ∷ bits) = ne_eqb (count_by (λ bit. bit) (false ∷ bits)) (suc (length bits))
    (λ same. omega (arith, same, count_by-le-length (λ (bit : Bool). bit) bits, sum_by-cons one_if false bits))

pub each_set : (bits : List Bool) (doc : ℕ) → list_all (λ bit. bit) bits ≡ true → doc < length bits → get_or bits doc false ≡ true
each_set [] doc all inside = absurd (omega (arith, inside))
each_set (false ∷ bits) doc all inside = absurd (let no : false ≡ true = all in cc)
each_set (true ∷ bits) zero all inside = refl
each_set (true ∷ bits) (suc doc) all inside = each_set bits doc all (omega (arith, inside))
