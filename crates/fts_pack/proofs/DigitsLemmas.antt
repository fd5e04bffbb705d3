-- Laws of digits to a base that is a power of two.
use Rattle.std.proofs.Common.{◌≡◌, ℕ, zero, suc, ◌+◌, ◌-◌, ◌*◌, ◌/◌, ◌%◌, ◌^◌, ◌<◌, ◌≤◌, List, [], ◌∷◌, ◌++◌, length, get_or, take, drop, refl, sym, ap, ap₂}
use Rattle.std.proofs.Common.{mod-eq_of_lt, ◌∙◌, subst, arith, add-one, add_comm, mul_comm, zero-mul, suc-mul, div-one, lit<, lt_trans}
use Rattle.std.proofs.lemmas.Nat.{pow_pos, pow-add, shr-shr, shr_high, mod_low, mod_below, mod-pow-add, field_of, shr_split, shr_below, pow_below, div-mul-add}
use Rattle.std.proofs.lemmas.Nat.{mul-add-lt}
use Rattle.std.proofs.lemmas.List.{length_push}
use Rattle.std.proofs.Math.Nat.{zero-div, mod-one, mul-add-mod_self_right, suc-mul}
use Rattle.fts_pack.specs.bits.Digits.{joined, digits, word_count, words_of}

-- each number has at most `width` bits
abbrev pub Below : ℕ → List ℕ → Type 0
Below width xs = (i : ℕ) → get_or xs i 0 < 2 ^ width

pub Below-tail : (width x : ℕ) (xs : List ℕ) → Below width (x ∷ xs) → Below width xs
Below-tail width x xs h = λ i. h (suc i)

pow_bits-suc : (count width : ℕ) → 2 ^ (suc count * width) ≡ 2 ^ (count * width) * 2 ^ width
pow_bits-suc count width = ap (λ b. 2 ^ b) (suc-mul count width) ∙ pow-add 2 (count * width) width

pow_bits-zero : (width : ℕ) → 2 ^ (0 * width) ≡ 1
pow_bits-zero width = ap (λ b. 2 ^ b) (zero-mul width)

shr_bits-suc : (n count width : ℕ) → n / 2 ^ (suc count * width) ≡ n / 2 ^ width / 2 ^ (count * width)
shr_bits-suc n count width =
    ap (λ b. n / 2 ^ b) (suc-mul count width ∙ add_comm (count * width) width) ∙ sym (shr-shr n width (count * width))

pub length-digits : (width count n : ℕ) → length (digits width count n) ≡ count
unfolding digits
length-digits width zero n = refl
length-digits width (suc count) n = ap suc (length-digits width count (n / 2 ^ width))

pub get_or-digits : (width count n i d : ℕ) → i < count → get_or (digits width count n) i d ≡ n / 2 ^ (i * width) % 2 ^ width
unfolding digits
get_or-digits width zero n i d h = absurd (omega arith)
get_or-digits width (suc count) n zero d h =
    ap (λ m. m % 2 ^ width) (sym (ap (λ p. n / p) (pow_bits-zero width) ∙ div-one n))
get_or-digits width (suc count) n (suc i) d h =
    get_or-digits width count (n / 2 ^ width) i d (omega arith) ∙ ap (λ m. m % 2 ^ width) (sym (shr_bits-suc n i width))

pub joined-append : (width : ℕ) (xs ys : List ℕ) → joined width (xs ++ ys) ≡ joined width ys * 2 ^ (length xs * width) + joined width xs
unfolding joined
joined-append width [] ys =
    sym (ap (λ p. joined width ys * p + 0) (pow_bits-zero width) ∙ omega arith)
joined-append width (x ∷ xs) ys =
    ap (λ n. n * 2 ^ width + x) (joined-append width xs ys) ∙ (let e = pow_bits-suc (length xs) width in rw e (omega arith))

pub joined-below : (width : ℕ) (xs : List ℕ) → Below width xs → joined width xs < 2 ^ (length xs * width)
unfolding joined
joined-below width [] h = rw (pow_bits-zero width) (omega arith)
joined-below width (x ∷ xs) h =
    let e = pow_bits-suc (length xs) width in
    rw (e, mul_comm (2 ^ (length xs * width)) (2 ^ width)) (mul-add-lt (joined width xs) (2 ^ width) x (2 ^ (length xs * width))
    (joined-below width xs (Below-tail width x xs h)) (h 0))

-- joined numbers are read back as digits
pub digits-joined : (width : ℕ) (xs : List ℕ) → Below width xs → digits width (length xs) (joined width xs) ≡ xs
unfolding joined digits
digits-joined width [] h = refl
digits-joined width (x ∷ xs) h =
    rw (mod_low (joined width xs) width x (h 0), shr_high (joined width xs) width x (h 0))
    (ap (λ ys. x ∷ ys) (digits-joined width xs (Below-tail width x xs h)))

pub joined-digits : (width count n : ℕ) → joined width (digits width count n) ≡ n % 2 ^ (count * width)
unfolding joined digits
joined-digits width zero n = sym (ap (λ p. n % p) (pow_bits-zero width) ∙ mod-one n)
joined-digits width (suc count) n =
    rw (joined-digits width count (n / 2 ^ width)) (sym (ap (λ b. n % 2 ^ b) (suc-mul count width) ∙ mod-pow-add n (count * width) width))

-- the words from an index on
pub joined-drop : (width i : ℕ) (xs : List ℕ) → Below width xs → joined width xs / 2 ^ (i * width) ≡ joined width (drop i xs)
unfolding joined
joined-drop width zero xs h = ap (λ p. joined width xs / p) (pow_bits-zero width) ∙ div-one (joined width xs)
joined-drop width (suc i) [] h = zero-div (2 ^ (suc i * width))
joined-drop width (suc i) (x ∷ xs) h =
    shr_bits-suc (joined width xs * 2 ^ width + x) i width ∙ (rw (shr_high (joined width xs) width x (h 0)) (joined-drop width i xs (Below-tail width x xs h)))

-- the words from an index on, with the first split off
pub joined-drop_split : (width i : ℕ) (xs : List ℕ) → joined width (drop i xs) ≡ joined width (drop (suc i) xs) * 2 ^ width + get_or xs i 0
unfolding joined
joined-drop_split width zero [] = omega arith
joined-drop_split width (suc i) [] = omega arith
joined-drop_split width zero (x ∷ xs) = refl
joined-drop_split width (suc i) (x ∷ xs) = joined-drop_split width i xs

-- a bit field of the low part of a number is one of the number
pub field_low : (high word start width low : ℕ) → start + width ≤ word → (high * 2 ^ word + low) / 2 ^ start % 2 ^ width ≡ low / 2 ^ start % 2 ^ width
field_low high word start width low h =
    let e : word ≡ (word - (width + start)) + (width + start) = omega arith in
    let cut : high * 2 ^ word ≡ (high * 2 ^ (word - (width + start))) * 2 ^ (width + start) =
    ap (λ b. high * 2 ^ b) e ∙ (rw (pow-add 2 (word - (width + start)) (width + start)) (omega arith)) in
    sym (field_of (high * 2 ^ word + low) width start)
    ∙ ap (λ n. n / 2 ^ start) (ap (λ n. (n + low) % 2 ^ (width + start)) cut ∙ mul-add-mod_self_right (high * 2 ^ (word - (width + start)))
    (2 ^ (width + start)) low) ∙ field_of low width start

-- a field that is within one word
pub read_one : (word width index start : ℕ) (words : List ℕ) → Below word words → start + width ≤ word →
    joined word words / 2 ^ (index * word + start) % 2 ^ width ≡ get_or words index 0 / 2 ^ start % 2 ^ width
read_one word width index start words below h =
    rw (← shr-shr (joined word words) (index * word) start, joined-drop word index words below, joined-drop_split word index words)
    (field_low (joined word (drop (suc index) words)) word start width (get_or words index 0) h)

-- a field that spans two words
pub read_two : (word width index start : ℕ) (words : List ℕ) → Below word words → start + width ≤ word + word →
    joined word words / 2 ^ (index * word + start) % 2 ^ width ≡ (get_or words (suc index) 0 * 2 ^ word + get_or words index 0) / 2 ^ start % 2 ^ width
read_two word width index start words below h =
    let a = joined word (drop (suc (suc index)) words) in
    let b = get_or words (suc index) 0 in
    let c = get_or words index 0 in
    let e : joined word (drop index words) ≡ a * 2 ^ (word + word) + (b * 2 ^ word + c) =
    joined-drop_split word index words ∙ (rw (joined-drop_split word (suc index) words, pow-add 2 word word) (omega arith)) in
    rw (← shr-shr (joined word words) (index * word) start, joined-drop word index words below, e) (field_low a (word + word) start width (b * 2 ^ word + c) h)

-- the numbers that are written: whole words, and the pending bits
pub record IsWritten (word width : ℕ) (numbers words : List ℕ) (pending filled : ℕ) : Type 0 where
  pub number : joined width numbers ≡ pending * 2 ^ (length words * word) + joined word words
  pub bits : length words * word + filled ≡ length numbers * width
  pub fits : pending < 2 ^ filled
  pub room : filled < word
  pub below : Below word words

pub IsWritten-start : (word width : ℕ) → 0 < word → IsWritten word width [] [] 0 0
unfolding joined
IsWritten-start word width h = record { number = omega arith; bits = omega arith; fits = lit< tt; room = h; below = λ i. pow_pos word }

-- the bits of one more number
joined-push : (word width : ℕ) (numbers words : List ℕ) (pending filled x : ℕ) → IsWritten word width numbers words pending filled →
    joined width (numbers ++ x ∷ []) ≡ (pending + x * 2 ^ filled) * 2 ^ (length words * word) + joined word words
unfolding joined
joined-push word width numbers words pending filled x h =
    let e : 2 ^ (length numbers * width) ≡ 2 ^ (length words * word) * 2 ^ filled = ap (λ b. 2 ^ b) (sym h.bits) ∙ pow-add 2 (length words * word) filled in
    joined-append width numbers (x ∷ []) ∙ (rw (e, h.number) (omega arith))

pending-push : (width pending filled x : ℕ) → pending < 2 ^ filled → x < 2 ^ width → pending + x * 2 ^ filled < 2 ^ (filled + width)
pending-push width pending filled x p h =
    rw (add_comm pending (x * 2 ^ filled), pow-add 2 filled width) (mul-add-lt x (2 ^ filled) pending (2 ^ width) h p)

pub IsWritten-short : (word width : ℕ) (numbers words : List ℕ) (pending filled x : ℕ) → IsWritten word width numbers words pending filled → x < 2 ^ width →
    filled + width < word → IsWritten word width (numbers ++ x ∷ []) words (pending + x * 2 ^ filled) (filled + width)
IsWritten-short word width numbers words pending filled x h small room = record {
  number = joined-push word width numbers words pending filled x h;
  bits = rw (length_push numbers x) (omega (arith, h.bits));
  fits = pending-push width pending filled x h.fits small;
  room = room;
  below = h.below;
}

pub Below-push : (width x : ℕ) (xs : List ℕ) → Below width xs → x < 2 ^ width → Below width (xs ++ x ∷ [])
Below-push width x [] h small zero = small
Below-push width x [] h small (suc i) = pow_pos width
Below-push width x (y ∷ ys) h small zero = h 0
Below-push width x (y ∷ ys) h small (suc i) = Below-push width x ys (Below-tail width y ys h) small i

pub IsWritten-full : (word width : ℕ) (numbers words : List ℕ) (pending filled x : ℕ) → IsWritten word width numbers words pending filled → x < 2 ^ width →
    word ≤ filled + width → width ≤ word →
    IsWritten word width (numbers ++ x ∷ []) (words ++ (pending + x * 2 ^ filled) % 2 ^ word ∷ []) ((pending + x * 2 ^ filled) / 2 ^ word)
    (filled + width - word)
unfolding joined
IsWritten-full word width numbers words pending filled x h small over narrow =
    let whole = pending + x * 2 ^ filled in
    let low = whole % 2 ^ word in
    let size = 2 ^ (length words * word) in
    let split : whole * size ≡ (whole / 2 ^ word * 2 ^ word + low) * size = ap (λ n. n * size) (sym (shr_split whole word)) in
    let grown : 2 ^ (length (words ++ low ∷ []) * word) ≡ size * 2 ^ word = ap (λ n. 2 ^ (n * word)) (length_push words low ∙ add-one (length words))
    ∙ pow_bits-suc (length words) word in
    let fits : whole < 2 ^ ((filled + width - word) + word) = let e : (filled + width - word) + word ≡ filled + width = omega arith in
    rw e (pending-push width pending filled x h.fits small) in
    record {
      number = joined-push word width numbers words pending filled x h ∙ (rw (joined-append word words (low ∷ []), grown) (omega (arith, split)));
      bits = rw (length_push numbers x, length_push words low) (omega (arith, h.bits));
      fits = shr_below whole (filled + width - word) word fits;
      room = omega (arith, h.room);
      below = Below-push word low words h.below (mod_below whole (2 ^ word) (pow_pos word));
    }

-- the whole words are all, if no bits are pending
pub IsWritten-end : (word width : ℕ) (numbers words : List ℕ) (pending filled : ℕ) → IsWritten word width numbers words pending filled → filled ≡ 0 →
    words ≡ words_of word width numbers
unfolding words_of word_count
IsWritten-end word width numbers words pending filled h e =
    let none : pending < 2 ^ 0 = subst (λ n. pending < 2 ^ n) e h.fits in
    let count : word_count word (length numbers * width) ≡ length words = ap (λ b. (b + (word - 1)) / word) (omega (arith, h.bits))
    ∙ div-mul-add (length words) word (word - 1) (omega (arith, h.room)) in
    let empty : pending ≡ 0 = omega (arith, none) in
    let number : joined width numbers ≡ joined word words = h.number ∙ (rw empty (omega arith)) in
    sym (ap (λ n. digits word n (joined width numbers)) count ∙ ap (digits word (length words)) number ∙ digits-joined word words h.below)

-- the pending bits are the last word, if there are some
pub IsWritten-last : (word width : ℕ) (numbers words : List ℕ) (pending filled : ℕ) → IsWritten word width numbers words pending filled → 0 < filled →
    words ++ pending ∷ [] ≡ words_of word width numbers
unfolding words_of word_count joined
IsWritten-last word width numbers words pending filled h some =
    let all = words ++ pending ∷ [] in
    let size : length all ≡ length words + 1 = length_push words pending in
    let bits : length numbers * width + (word - 1) ≡ length all * word + (filled - 1) = rw size (omega (arith, h.bits, h.room)) in
    let count : word_count word (length numbers * width) ≡ length all =
    ap (λ b. b / word) bits ∙ div-mul-add (length all) word (filled - 1) (omega (arith, h.room)) in
    let small : pending < 2 ^ word = lt_trans h.fits (pow_below filled word h.room) in
    let number : joined width numbers ≡ joined word all = h.number ∙ sym (joined-append word words (pending ∷ []) ∙ omega arith) in
    sym (ap (λ n. digits word n (joined width numbers)) count ∙ ap (digits word (length all)) number ∙ digits-joined word all
    (Below-push word pending words h.below small))

-- the lowest digits of a joined number
pub joined-take : (width count : ℕ) (xs : List ℕ) → Below width xs → joined width (take count xs) ≡ joined width xs % 2 ^ (count * width)
unfolding joined
joined-take width zero xs h = sym (ap (λ p. joined width xs % p) (pow_bits-zero width) ∙ mod-one (joined width xs))
joined-take width (suc count) [] h = sym (mod-eq_of_lt (pow_pos (suc count * width)))
joined-take width (suc count) (x ∷ xs) h =
    let n = joined width xs * 2 ^ width + x in
    let low : n % 2 ^ width ≡ x = mod_low (joined width xs) width x (h 0) in
    let high : n / 2 ^ width ≡ joined width xs = shr_high (joined width xs) width x (h 0) in
    let split : n % 2 ^ (suc count * width) ≡ (n / 2 ^ width % 2 ^ (count * width)) * 2 ^ width + n % 2 ^ width =
    ap (λ b. n % 2 ^ b) (suc-mul count width) ∙ mod-pow-add n (count * width) width in
    ap (λ m. m * 2 ^ width + x) (joined-take width count xs (Below-tail width x xs h))
    ∙ sym (split ∙ ap₂ (λ a b. (a % 2 ^ (count * width)) * 2 ^ width + b) high low)
