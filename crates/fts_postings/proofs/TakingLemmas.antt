-- The marked documents of a word that are taken at once.
use Rattle.std.proofs.Common.{◌≡◌, ℕ, zero, suc, ◌+◌, ◌-◌, ◌*◌, ◌/◌, ◌%◌, ◌^◌, ◌<◌, ◌≤◌, Bool, cond, ◌==◌, count_ones, List, [], ◌∷◌, ◌++◌, length, take, drop}
use Rattle.std.proofs.Common.{refl, sym, ap, ap₂, subst, ◌∙◌, inl, inr, arith}
use Rattle.std.specs.Int.{bit_at}
use Rattle.std.specs.Int.RustNames.{bit_and}
use Rattle.std.proofs.Math.Seq.{take-append_seam}
use Rattle.std.proofs.lemmas.Bool.{cases_Bool, cases_lt, eqb-false, eqb-true}
use Rattle.std.proofs.lemmas.List.{drop-append-le, drop_all, length-append}
use Rattle.std.proofs.lemmas.Nat.{and_le_r, ones_le_self, pow_pos}
use Rattle.std.proofs.lemmas.Nat.Bits.{bit_at_above, bit_at_and, bit_at-lt, bit_at_lowest, bit_at_ones, bit_at-suc}
use lib.Count.{ones_step}
use Rattle.fts_pack.specs.Documents.{Rises}
use Rattle.fts_postings.specs.Takes.{IsStretch}
use Rattle.fts_postings.specs.Windows.{AreMarksFrom, found_in, is_found, is_marked, marked, passing}
use Rattle.fts_postings.proofs.PassingLemmas.{Rises-passing, passing-append}
use Rattle.fts_postings.proofs.WindowLemmas.{word_part}

-- as many pass as there are bits
ones_passing : (n a m : ℕ) (p : ℕ → Bool) → m < 2 ^ n → ((k : ℕ) → k < n → p (a + k) ≡ (bit_at m k == 1)) → length (passing p a n) ≡ count_ones m
ones_passing zero a m p small same = omega (arith, small, ones_le_self m)
ones_passing (suc n) a m p small same =
    let rest = passing p (a + 1) n in
    let start : a + 0 ≡ a = omega arith in
    let first : p a ≡ (m % 2 == 1) = ap p (sym start) ∙ same 0 (omega arith) ∙ ap (λ b. b == 1) (bit_at_lowest m) in
    let half : m / 2 < 2 ^ n = omega (arith, small) in
    let more = ones_passing n (a + 1) (m / 2) p half (λ k lt. let e : a + 1 + k ≡ a + suc k = omega arith in ap p e ∙ same (suc k) (omega (arith, lt))
    ∙ ap (λ b. b == 1) (bit_at-suc m k)) in
    elim (cases_Bool (p a)) [
      | inl kept ↦
          let odd : m % 2 ≡ 1 = eqb-true (m % 2) 1 (sym first ∙ kept) in
          let all : length (passing p a (suc n)) ≡ suc (length rest) = ap (λ b. length (cond b (a ∷ rest) rest)) kept in
          omega (arith, all, odd, more, ones_step m)
      | inr other ↦
          let even : m % 2 ≡ 0 = (let ne = eqb-false (m % 2) 1 (sym first ∙ other) in omega (arith, ne)) in
          let all : length (passing p a (suc n)) ≡ length rest = ap (λ b. length (cond b (a ∷ rest) rest)) other in
          omega (arith, all, even, more, ones_step m)
    ]

pub marked-ones : (from marks : ℕ) → marks < 2 ^ 64 → length (marked from (from + 63) marks) ≡ count_ones marks
marked-ones from marks fits =
    let whole : suc (from + 63) - from ≡ 64 = omega arith in
    ap (λ n. length (passing (is_marked from marks) from n)) whole
    ∙ ones_passing 64 from marks (is_marked from marks) fits (λ k lt. let at : from + k - from ≡ k = omega arith in ap (λ j. bit_at marks j == 1) at)

-- as many are found of a word's documents, from a place up to the last, as there are bits
pub counted_word : (words : List ℕ) (base from word : ℕ) (order : base ≤ from) (of : AreMarksFrom (from - (from - base) % 64) base words word) (marks : ℕ)
    (is : marks ≡ bit_and word (2 ^ 64 - 2 ^ ((from - base) % 64))) (last mask : ℕ)
    → from ≤ last → mask ≡ 2 ^ (64 - (from - (from - base) % 64 + 63 - last)) - 1 →
    count_ones (bit_and marks mask) + length (found_in base (from - (from - base) % 64 + 64) last words) ≡ length (found_in base from last words)
counted_word words base from word order of marks is last mask within mask_is =
    let at = (from - base) % 64 in
    let start = from - at in
    let places = 64 - (start + 63 - last) in
    let more = suc last - (start + 64) in
    let test = is_found base words in
    let inside = bit_and marks mask in
    let some : at ≤ places = omega (arith, order, within) in
    let fits : inside < 2 ^ places = omega (arith, and_le_r marks mask, mask_is, pow_pos places) in
    let same : (k : ℕ) → k < places → is_marked start marks (start + k) ≡ (bit_at inside k == 1) = λ k lt.
    let e : start + k - start ≡ k = omega arith in
    let b : bit_at marks k ≡ bit_at inside k =
    omega (arith, bit_at_and marks mask k, bit_at_ones places k lt, ap (λ n. bit_at n k) mask_is, bit_at-lt marks k) in
    ap (λ j. bit_at marks j == 1) e ∙ ap (λ x. x == 1) b in
    let here : length (passing test from (places - at)) ≡ count_ones inside =
    ap length (word_part words base from word order of marks is places some (omega arith)) ∙ ones_passing places start inside (is_marked start marks) fits
    same in
    let all : suc last - from ≡ (places - at) + more = omega (arith, order, within) in
    let rest : length (passing test (from + (places - at)) more) ≡ length (passing test (start + 64) more) = elim (cases_lt last (start + 63)) [
      | inl short ↦
          let none : more ≡ 0 = omega (arith, short) in
          ap (λ n. length (passing test (from + (places - at)) n)) none ∙ sym (ap (λ n. length (passing test (start + 64) n)) none)
      | inr long ↦ let next : from + (places - at) ≡ start + 64 = omega (arith, order, long) in ap (λ a. length (passing test a more)) next
    ] in
    let split : length (found_in base from last words) ≡ length (passing test from (places - at)) + length (passing test (from + (places - at)) more) =
    ap length (ap (passing test from) all ∙ passing-append test from (places - at) more) ∙ length-append (passing test from (places - at))
    (passing test (from + (places - at)) more) in
    omega (arith, split, here, rest)

-- as many are found of 64 documents as their word has bits
pub whole_word : (words : List ℕ) (base index last word : ℕ) → AreMarksFrom (base + index * 64) base words word → word < 2 ^ 64 →
    base + index * 64 + 63 ≤ last →
    count_ones word + length (found_in base (base + (index + 1) * 64) last words) ≡ length (found_in base (base + index * 64) last words)
whole_word words base index last word of fits long =
    let from = base + index * 64 in
    let more = suc last - (from + 64) in
    let test = is_found base words in
    let here : length (passing test from 64) ≡ count_ones word = ones_passing 64 from word test fits (λ k lt. sym (of k lt)) in
    let all : suc last - from ≡ 64 + more = omega (arith, long) in
    let next : base + (index + 1) * 64 ≡ from + 64 = omega arith in
    let split : length (found_in base from last words) ≡ length (passing test from 64) + length (passing test (from + 64) more) =
    ap length (ap (passing test from) all ∙ passing-append test from 64 more) ∙ length-append (passing test from 64) (passing test (from + 64) more) in
    omega (arith, split, here, ap (λ a. length (found_in base a last words)) next)

-- what is marked in a word lies below its end
pub marked_few : (from marks bound : ℕ) → marks < 2 ^ 64 → from + 63 < bound → (k : ℕ) → bit_at marks k ≡ 1 → from + k < bound
marked_few from marks bound fits high k is = elim (cases_lt k 64) [
  | inl low ↦ omega (arith, low, high)
  | inr above ↦ absurd (let none = bit_at_above marks 64 k fits above in omega (arith, is, none))
]

-- those of a word are taken, of which one is the first that is left
pub taken_word : (left next out written : List ℕ) (base start doc last marks filled total count : ℕ) (words rest : List ℕ) → left ≡ doc ∷ rest →
    doc < start + 64 → next ≡ found_in base (start + 64) last words → left ≡ marked start (start + 63) marks ++ next
    → length (marked start (start + 63) marks) ≡ count → filled + count ≤ 128 → total ≡ filled + length (marked start (start + 63) marks) →
    take total written ≡ take filled out ++ marked start (start + 63) marks → IsStretch left next out written filled count
taken_word left next out written base start doc last marks filled total count words rest is low next_is split size room total_is front =
    let here = marked start (start + 63) marks in
    let first : (length here ≡ 0) → ⊥ = λ none.
    let empty : here ≡ [] = (elim here as (λ xs. length xs ≡ 0 → xs ≡ []) [ [] ↦ λ e. refl | x ∷ xs ↦ λ e. absurd (omega (arith, e)) ] none) in
    let behind : found_in base (start + 64) last words ≡ doc ∷ rest = sym next_is ∙ sym (split ∙ ap (λ xs. xs ++ next) empty) ∙ is in
    let rises : Rises (start + 64) (doc ∷ rest) =
    subst (Rises (start + 64)) behind (Rises-passing (is_found base words) (start + 64) (suc last - (start + 64))) in
    omega (arith, rises.0, low) in
    let taken : take count left ≡ here = ap₂ (λ n xs. take n xs) (sym size) split ∙ take-append_seam here next in
    let gone : drop count left ≡ next = ap₂ (λ n xs. drop n xs) (sym size) split ∙ drop-append-le (length here) here next (omega arith)
    ∙ ap (λ xs. xs ++ next) (drop_all (length here) here (omega arith)) in
    record {
      some = λ _. elim (cases_lt 0 count) [ inl some ↦ some | inr none ↦ absurd (first (omega (arith, size, none))) ];
      within = omega (arith, ap length split, length-append here next, size);
      room = room;
      front = ap (λ n. take n written) (let e : filled + count ≡ total = omega (arith, total_is, size) in e) ∙ front
          ∙ ap (λ xs. take filled out ++ xs) (sym taken);
      left_is = sym gone;
    }
