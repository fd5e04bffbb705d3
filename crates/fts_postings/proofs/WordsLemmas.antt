-- Words of 64 documents: one bit more, a word joined with another, and what the bits of a word tell.
use Rattle.std.proofs.Common.{◌≡◌, ◌≢◌, ℕ, zero, suc, ◌+◌, ◌-◌, ◌*◌, ◌/◌, ◌%◌, ◌^◌, ◌<◌, ◌≤◌, Bool, false, cond, ◌||◌, ◌&&◌, ◌==◌, nat_le, List, [], ◌∷◌}
use Rattle.std.proofs.Common.{get_or, length, replicate, set, bit_or, refl, sym, ap, ap₂, ◌∙◌, inl, inr, arith}
use Rattle.std.specs.Int.{bit_at, w64}
use Rattle.std.specs.List.{filter}
use Rattle.std.proofs.Math.Bool.{or-false}
use Rattle.std.proofs.lemmas.Bool.{cases_Bool, cases_lt, le-leb, lt-leb}
use Rattle.std.proofs.lemmas.List.{get_or-replicate, get_or-set_other, get_or-set_same, get_or_past, length-replicate}
use Rattle.std.proofs.lemmas.Nat.Bits.{bit_at_set_other, bit_at_set_same, bit_at-zero}
use Rattle.fts_pack.specs.bits.Changes.{AreChanged}
use Rattle.fts_pack.proofs.ChangeLemmas.{bit_of_or}
use Rattle.fts_postings.specs.Sets.{with_one}
use Rattle.fts_postings.specs.Windows.{AreMarksFrom, found_in, is_found, passing}
use Rattle.fts_postings.proofs.WindowLemmas.{nothing, passing-mark, passing-same, unset}

-- what passes one test, and of that what passes another
passing-both : (p q : ℕ → Bool) (from n : ℕ) → passing (λ d. p d && q d) from n ≡ filter q (passing p from n)
passing-both p q from zero = refl
passing-both p q from (suc n) =
    let both = passing (λ d. p d && q d) (from + 1) n in
    let one = passing p (from + 1) n in
    elim (cases_Bool (p from)) [
      | inl live ↦
          ap (λ b. cond (b && q from) (from ∷ both) both) live ∙ ap (λ ys. cond (q from) (from ∷ ys) ys) (passing-both p q (from + 1) n)
          ∙ sym (ap (λ b. filter q (cond b (from ∷ one) one)) live)
      | inr dead ↦
          ap (λ b. cond (b && q from) (from ∷ both) both) dead ∙ passing-both p q (from + 1) n
          ∙ sym (ap (λ b. filter q (cond b (from ∷ one) one)) dead)
    ]

zeros_at : (n k : ℕ) → get_or (replicate {A = ℕ} n 0) k 0 ≡ 0
zeros_at n k = elim (cases_lt k n) [
  | inl within ↦ get_or-replicate n k 0 0 within
  | inr past ↦ get_or_past (replicate {A = ℕ} n 0) k 0 (omega (arith, past, length-replicate {A = ℕ} n 0))
]

-- nothing is found where the words are 0
pub found-zeros : (base from last : ℕ) → found_in base from last (replicate 64 0) ≡ []
found-zeros base from last =
    nothing (is_found base (replicate 64 0)) from (suc last - from)
    (λ d up down. ap (λ n. bit_at n ((d - base) % 64) == 1) (zeros_at 64 ((d - base) / 64)) ∙ unset 0 ((d - base) % 64) (bit_at-zero ((d - base) % 64)))

-- one more is found, and the others stay
pub found-set : (base from last doc : ℕ) (words : List ℕ) → base ≤ from → from ≤ doc → doc ≤ last → (doc - base) / 64 < length words →
    found_in base from last (set words ((doc - base) / 64) (bit_or (get_or words ((doc - base) / 64) 0) (1 * 2 ^ ((doc - base) % 64) % 2 ^ 64)))
    ≡ with_one doc (found_in base from last words)
found-set base from last doc words order low high room =
    let i = (doc - base) / 64 in
    let j = (doc - base) % 64 in
    let old = get_or words i 0 in
    let word = bit_or old (1 * 2 ^ j % 2 ^ 64) in
    let new = set words i word in
    let within : j < 64 = omega arith in
    passing-mark (is_found base new) (is_found base words) from (suc last - from) doc low (omega (arith, high, low))
    (ap (λ n. bit_at n j == 1) (get_or-set_same words i word 0 room) ∙ ap (λ n. n == 1) (bit_at_set_same w64 old j within))
    (λ d up down other.
    let k = (d - base) % 64 in
    elim (cases_lt ((d - base) / 64) i) [
      | inl below ↦ ap (λ n. bit_at n k == 1) (get_or-set_other words i ((d - base) / 64) word 0 (λ e. absurd (omega (arith, e, below))))
      | inr up_to ↦ elim (cases_lt i ((d - base) / 64)) [
        | inl above ↦ ap (λ n. bit_at n k == 1) (get_or-set_other words i ((d - base) / 64) word 0 (λ e. absurd (omega (arith, e, above))))
        | inr down_to ↦
            let same : (d - base) / 64 ≡ i = omega (arith, up_to, down_to) in
            let apart : k ≢ j = λ e. other (omega (arith, e, same, up, low, order)) in
            ap (λ m. bit_at (get_or new m 0) k == 1) same ∙ ap (λ n. bit_at n k == 1) (get_or-set_same words i word 0 room)
            ∙ ap (λ n. n == 1) (bit_at_set_other w64 old j within k apart) ∙ sym (ap (λ m. bit_at (get_or words m 0) k == 1) same)
      ]
    ])

-- a word has the bits of its 64 documents
pub word_at : (base index start : ℕ) (words : List ℕ) → start ≡ base + index * 64 → AreMarksFrom start base words (get_or words index 0)
word_at base index start words is k inside =
    let place : (start + k - base) / 64 ≡ index = omega (arith, is, inside) in
    let bit : (start + k - base) % 64 ≡ k = omega (arith, is, inside) in
    sym (ap₂ (λ i j. bit_at (get_or words i 0) j == 1) place bit)

-- words joined with others from a place on
pub found-joined : (base start first count d : ℕ) (old new words : List ℕ) → start ≡ base + first * 64 →
    ((k : ℕ) → k < first → get_or new k 0 ≡ get_or old k 0) →
    ((k : ℕ) → k < count → get_or new (first + k) 0 ≡ bit_or (get_or old (first + k) 0) (get_or words k 0)) →
    ((k : ℕ) → first + count ≤ k → get_or new k 0 ≡ get_or old k 0) → (first + count ≤ (d - base) / 64 → length words ≤ count) → base ≤ d →
    is_found base new d ≡ (is_found base old d || (nat_le start d && is_found start words d))
found-joined base start first count d old new words is below joined rest ends up =
    let i = (d - base) / 64 in
    let j = (d - base) % 64 in
    let told = is_found start words d in
    let found = is_found base old d in
    elim (cases_lt d start) [
      | inl before ↦
          ap (λ n. bit_at n j == 1) (below i (omega (arith, before, is, up)))
          ∙ sym (ap (λ b. found || (b && told)) (lt-leb start d before) ∙ or-false found)
      | inr from ↦
          let k = (d - start) / 64 in
          let place : i ≡ first + k = omega (arith, from, is) in
          let bit : (d - start) % 64 ≡ j = omega (arith, from, is) in
          let there : (nat_le start d && told) ≡ (bit_at (get_or words k 0) j == 1) =
          ap (λ b. b && told) (le-leb start d from) ∙ ap (λ m. bit_at (get_or words k 0) m == 1) bit in
          elim (cases_lt k count) [
            | inl inside ↦
                ap (λ m. bit_at (get_or new m 0) j == 1) place ∙ ap (λ n. bit_at n j == 1) (joined k inside)
                ∙ bit_of_or (get_or old (first + k) 0) (get_or words k 0) j
                ∙ sym (ap₂ (λ a b. a || b) (ap (λ m. bit_at (get_or old m 0) j == 1) place) there)
            | inr past ↦
                let far : first + count ≤ i = omega (arith, past, place) in
                let none : (bit_at (get_or words k 0) j == 1) ≡ false =
                ap (λ n. bit_at n j == 1) (get_or_past words k 0 (omega (arith, ends far, past))) ∙ unset 0 j (bit_at-zero j) in
                ap (λ n. bit_at n j == 1) (rest i far) ∙ sym (ap (λ b. found || b) (there ∙ none) ∙ or-false found)
          ]
    ]

-- those documents that are found and pass are kept
pub found-and : (base from last : ℕ) (words new : List ℕ) (test : ℕ → Bool) → base ≤ from → base % 64 ≡ 0 → length words ≡ 64 →
    AreChanged (λ doc told. told && test doc) (base / 64) words new → found_in base from last new ≡ filter test (found_in base from last words)
found-and base from last words new test order aligned long cut =
    passing-same (is_found base new) (λ d. is_found base words d && test d) from (suc last - from)
    (λ d up down.
    let k = (d - base) / 64 in
    let j = (d - base) % 64 in
    elim (cases_lt k 64) [
      | inl inside ↦
          let at : 64 * (base / 64 + k) + j ≡ d = omega (arith, up, order, aligned) in
          cut.told k j (omega (arith, inside, long)) (omega arith) ∙ ap (λ i. (bit_at (get_or words k 0) j == 1) && test i) at
      | inr past ↦
          ap (λ n. bit_at n j == 1) (get_or_past new k 0 (omega (arith, past, long, cut.long))) ∙ unset 0 j (bit_at-zero j)
          ∙ sym (ap (λ b. b && test d) (ap (λ n. bit_at n j == 1) (get_or_past words k 0 (omega (arith, past, long))) ∙ unset 0 j (bit_at-zero j)))
    ])
    ∙ passing-both (is_found base words) test from (suc last - from)
