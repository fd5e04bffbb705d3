-- 16 words, a word after the other, and one test after the other.
use Rattle.std.proofs.Common.{◌≡◌, ◌&&◌, ◌||◌, ℕ, ◌+◌, ◌-◌, ◌*◌, ◌^◌, ◌<◌, ◌≤◌, ◌==◌, Bool, false, true, not, nat_le, List, length, get_or, take, count_ones}
use Rattle.std.proofs.Common.{◌/◌, ◌%◌, suc, nat_lt, bit_and, bit_or, refl, sym, ap, ◌∙◌, inl, inr, arith}
use Rattle.std.specs.Int.{bit_at, bit_not, w64}
use Rattle.std.specs.List.{list_all, list_any}
use Rattle.std.proofs.Math.Bool.{and_assoc}
use Rattle.std.proofs.lemmas.Bool.{cases_lt, le-leb, le-ltb, lt-leb, lt-ltb}
use Rattle.std.proofs.lemmas.List.{length-append}
use Rattle.std.proofs.lemmas.List.Folds.{list_all_more, list_any_more}
use Rattle.std.proofs.lemmas.Nat.Bits.{bit_at-zero, bit_at_mask_below, bit_at_mask_inside, bit_at_ones, bit_at_ones_above, ones_shl}
use Rattle.std.proofs.lemmas.Nat.{one_shl}
use Rattle.fts_pack.proofs.ChangeLemmas.{AreChangedTo, bit_of_and, bit_of_not, bit_of_or}
use Rattle.fts_postings.specs.Windows.{is_marked, passing}
use Rattle.fts_postings.proofs.PassingLemmas.{passing-append}
use Rattle.fts_postings.proofs.MarksLemmas.{length-marked}
use Rattle.fts_postings.proofs.TakingLemmas.{marked-ones}
use Rattle.fts_postings.proofs.WindowLemmas.{passing-same}
use Rattle.fts_sets.specs.Rows.{Tells}

pub not_or : (a b : Bool) → (not a && not b) ≡ not (a || b)
not_or true b = refl
not_or false b = refl

-- one test of a list more
module _ {X : Type 0} (p : X → Bool) (list : List X) (i : ℕ) (x : X) (inside : i < length list) (is : x ≡ get_or list i x) (told : Bool) where
  pub all_more : ((told && list_all p (take i list)) && p x) ≡ (told && list_all p (take (i + 1) list))
  all_more = and_assoc told (list_all p (take i list)) (p x)
      ∙ ap (λ b. told && b) (ap (λ y. list_all p (take i list) && p y) is ∙ sym (list_all_more p list i x inside))

  pub none_more : ((told && not (list_any p (take i list))) && not (p x)) ≡ (told && not (list_any p (take (i + 1) list)))
  none_more = and_assoc told (not (list_any p (take i list))) (not (p x))
      ∙ ap (λ b. told && b) (not_or (list_any p (take i list)) (p x)
      ∙ ap not (ap (λ y. list_any p (take i list) || p y) is ∙ sym (list_any_more p list i x inside)))

-- a word without documents stays
pub AreChangedTo-skip : (change : ℕ → Bool → Bool) (index : ℕ) (old words : List ℕ) (place : ℕ) → AreChangedTo change index old words place →
    get_or words place 0 ≡ 0 → ((d : ℕ) → change d false ≡ false) → AreChangedTo change index old words (place + 1)
AreChangedTo-skip change index old words place h none same = record {
  done = λ k j low in_word. elim (cases_lt k place) [
    | inl below ↦ h.done k j below in_word
    | inr up ↦ (
        let at : k ≡ place = omega (arith, low, up) in
        let here : get_or words k 0 ≡ 0 = ap (λ i. get_or words i 0) at ∙ none in
        let there : get_or old k 0 ≡ 0 = sym (h.left k (omega (arith, up))) ∙ here in
        let clear : (0 == 1) ≡ false = refl in
        ap (λ w. bit_at w j == 1) here ∙ ap (λ n. n == 1) (bit_at-zero j)
        ∙ sym (ap (λ w. change (64 * (index + k) + j) (bit_at w j == 1)) there ∙ ap (λ n. change (64 * (index + k) + j) (n == 1)) (bit_at-zero j)
        ∙ same (64 * (index + k) + j))
        )
  ];
  left = λ k up. h.left k (omega (arith, up));
  long = h.long;
}

-- a word is met with one that tells, or with its complement
pub word-met : (test : ℕ → Bool) (at old word : ℕ) → Tells test at word → (j : ℕ) → j < 64 →
    (bit_at (bit_and old word) j == 1) ≡ ((bit_at old j == 1) && test (at + j))
word-met test at old word tells j inside = bit_of_and old word j ∙ ap (λ b. (bit_at old j == 1) && b) (tells j inside)

pub word-left : (test : ℕ → Bool) (at old word : ℕ) → word < 2 ^ 64 → Tells test at word → (j : ℕ) → j < 64 →
    (bit_at (bit_and old (bit_not w64 word)) j == 1) ≡ ((bit_at old j == 1) && not (test (at + j)))
word-left test at old word fits tells j inside =
    bit_of_and old (bit_not w64 word) j ∙ ap (λ b. (bit_at old j == 1) && b) (bit_of_not word j fits inside ∙ ap not (tells j inside))

-- a word is joined with one that tells
pub word-joined : (test : ℕ → Bool) (at old word : ℕ) → Tells test at word → (j : ℕ) → j < 64 →
    (bit_at (bit_or old word) j == 1) ≡ ((bit_at old j == 1) || test (at + j))
word-joined test at old word tells j inside = bit_of_or old word j ∙ ap (λ b. (bit_at old j == 1) || b) (tells j inside)

-- a document of a row is told by what the set is told by
pub row_told : (from some below all none : Bool) → ((((from && some) && below) && all) && none) ≡ (from && (((below && all) && some) && none))
row_told false some below all none = refl
row_told true true false all none = refl
row_told true true true true none = refl
row_told true true true false none = refl
row_told true false true true none = refl
row_told true false true false none = refl
row_told true false false all none = refl

but_others : (a b : Bool) → (a && not (a && not b)) ≡ (a && b)
but_others true true = refl
but_others true false = refl
but_others false b = refl

-- all but those that pass none
pub word-but : (old others j : ℕ) (b : Bool) → others < 2 ^ 64 → j < 64 → (bit_at others j == 1) ≡ ((bit_at old j == 1) && not b) →
    (bit_at (bit_and old (bit_not w64 others)) j == 1) ≡ ((bit_at old j == 1) && b)
word-but old others j b fits inside is =
    bit_of_and old (bit_not w64 others) j
    ∙ ap (λ c. (bit_at old j == 1) && c) (bit_of_not others j fits inside ∙ ap not is) ∙ but_others (bit_at old j == 1) b

-- the bits from a first document on
pub first-word : (index first mask : ℕ) → first < 64 * index + 64 → mask ≡ (2 ^ 64 - 1) * 2 ^ (first - 64 * index) % 2 ^ 64 →
    Tells (nat_le first) (64 * index) mask
first-word index first mask near is j inside =
    let s = first - 64 * index in
    let mask_is : bit_at mask j ≡ bit_at (2 ^ 64 - 2 ^ s) j = ap (λ m. bit_at m j) (is ∙ ones_shl 64 s (omega (arith, near))) in
    elim (cases_lt j s) [
      | inl low ↦ ap (λ n. n == 1) (mask_is ∙ bit_at_mask_below s 64 j low) ∙ sym (lt-leb first (64 * index + j) (omega (arith, low)))
      | inr up ↦ ap (λ n. n == 1) (mask_is ∙ bit_at_mask_inside s 64 j up inside) ∙ sym (le-leb first (64 * index + j) (omega (arith, up)))
    ]

-- a word has what 64 documents have
length-word : (test : ℕ → Bool) (from word : ℕ) → Tells test from word → word < 2 ^ 64 → length (passing test from 64) ≡ count_ones word
length-word test from word tells fits =
    let whole : 64 ≡ suc (from + 63) - from = omega arith in
    ap length (passing-same test (is_marked from word) from 64 (λ d up down.
    let k : ℕ = d - from in
    let at : from + k ≡ d = omega (arith, up) in
    sym (tells k (omega (arith, up, down)) ∙ ap test at))) ∙ ap (λ n. length (passing (is_marked from word) from n)) whole ∙ marked-ones from word fits

pub length-more : (test : ℕ → Bool) (from place word : ℕ) → Tells test (from + 64 * place) word → word < 2 ^ 64 →
    length (passing test from (64 * (place + 1))) ≡ length (passing test from (64 * place)) + count_ones word
length-more test from place word tells fits =
    let size : 64 * (place + 1) ≡ 64 * place + 64 = omega arith in
    ap (λ n. length (passing test from n)) size ∙ ap length (passing-append test from (64 * place) 64) ∙ length-append (passing test from (64 * place))
    (passing test (from + 64 * place) 64)
    ∙ ap (λ n. length (passing test from (64 * place)) + n) (length-word test (from + 64 * place) word tells fits)

pub ones-few : (word : ℕ) → word < 2 ^ 64 → count_ones word ≤ 64
ones-few word fits = omega (arith, marked-ones 0 word fits, length-marked 0 63 word)

-- a word of the documents below a number
pub first-some : (docs index last : ℕ) → index ≡ docs / 64 → last ≡ 1 * 2 ^ (docs % 64) % 18446744073709551616 - 1 → (j : ℕ) → j < 64 →
    (bit_at last j == 1) ≡ nat_lt (64 * index + j) docs
first-some docs index last at is j inside =
    let n = docs % 64 in
    let last_is : last ≡ 2 ^ n - 1 = is ∙ ap (λ m. m - 1) (one_shl n 64 (omega arith)) in
    ap (λ m. bit_at m j == 1) last_is ∙ elim (cases_lt j n) [
      | inl below ↦ ap (λ m. m == 1) (bit_at_ones n j below) ∙ sym (lt-ltb (64 * index + j) docs (omega (arith, below, at)))
      | inr above ↦ ap (λ m. m == 1) (bit_at_ones_above n j above) ∙ sym (le-ltb (64 * index + j) docs (omega (arith, above, at)))
    ]
