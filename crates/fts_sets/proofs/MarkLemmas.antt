-- Documents that words tell, of which those from a first one on are marked in a window, some words after the others.
use Rattle.std.proofs.Common.{◌≡◌, ℕ, ◌+◌, ◌-◌, ◌*◌, ◌/◌, ◌%◌, ◌<◌, ◌≤◌, ◌==◌, ◌&&◌, ◌||◌, nat_le, nat_lt, Bool, false, List, get_or, length, sym, ap, ap₂}
use Rattle.std.proofs.Common.{zero, suc, cond, refl, ◌∷◌, ◌∙◌, inl, inr, arith}
use Rattle.std.specs.Int.{bit_at}
use Rattle.std.proofs.Math.Bool.{and-false, or-false}
use Rattle.std.proofs.lemmas.Bool.{cases_Bool, cases_lt, le-leb, le-ltb, lt-leb, lt-ltb}
use Rattle.std.proofs.lemmas.List.{get_or_past}
use Rattle.std.proofs.lemmas.Nat.Bits.{bit_at-zero}
use Rattle.std.specs.List.{range_with_len}
use Rattle.fts_pack.specs.Documents.{Rises}
use Rattle.fts_pack.proofs.DocumentsLemmas.{Rises-from_increasing}
use Rattle.fts_postings.specs.Sets.{has}
use Rattle.fts_postings.specs.Windows.{is_found, passing}
use Rattle.fts_postings.proofs.PassingLemmas.{Rises-passing}
use Rattle.fts_postings.proofs.RemainingLemmas.{increasing-from_Rises}
use Rattle.fts_postings.proofs.SetLemmas.{above_is_other, has-below}
use Rattle.fts_postings.specs.declared.window.Window.{Window}
use Rattle.fts_sets.specs.Rows.{found}
use Rattle.fts_postings.proofs.WindowLemmas.{unset}
use Rattle.fts_sets.proofs.SetLemmas.{has-filter, has-range, past-range}

module _ (test : ℕ → Bool) (base last first : ℕ) (old : List ℕ) where
  abbrev pub wanted : ℕ → Bool
  wanted d = nat_le first d && test d

  -- up to the last, those below another are marked
  abbrev pub MarkedBelow : List ℕ → ℕ → Type 0
  MarkedBelow words from = (d : ℕ) → base ≤ d → d ≤ last → is_found base words d ≡ (is_found base old d || (nat_lt d from && wanted d))

  pub MarkedBelow-none : (from : ℕ) → from ≤ first → MarkedBelow old from
  MarkedBelow-none from low d up down = elim (cases_lt d from) [
    | inl here ↦
        sym (ap (λ b. is_found base old d || (nat_lt d from && (b && test d))) (lt-leb first d (omega (arith, here, low)))
        ∙ ap (λ b. is_found base old d || b) (and-false (nat_lt d from)) ∙ or-false (is_found base old d))
    | inr there ↦ sym (ap (λ b. is_found base old d || (b && wanted d)) (le-ltb d from there) ∙ or-false (is_found base old d))
  ]

  pub MarkedBelow-more : (words new told : List ℕ) (from : ℕ) → MarkedBelow words from →
      ((k j : ℕ) → k < length told → j < 64 → (bit_at (get_or told k 0) j == 1) ≡ wanted (from + 64 * k + j)) →
      ((d : ℕ) → base ≤ d → d ≤ last → is_found base new d ≡ (is_found base words d || (nat_le from d && is_found from told d))) →
      MarkedBelow new (from + 64 * length told)
  MarkedBelow-more words new told from h tells more d up down =
      let A = is_found base old d in
      let end = from + 64 * length told in
      let k = (d - from) / 64 in
      let j = (d - from) % 64 in
      more d up down ∙ ap (λ b. b || (nat_le from d && is_found from told d)) (h d up down) ∙ elim (cases_lt d from) [
        | inl low ↦
            ap₂ (λ a b. (A || (a && wanted d)) || (b && is_found from told d)) (lt-ltb d from low) (lt-leb from d low)
            ∙ or-false (A || wanted d) ∙ sym (ap (λ b. A || (b && wanted d)) (lt-ltb d end (omega (arith, low))))
        | inr high ↦
            ap₂ (λ a b. (A || (a && wanted d)) || (b && is_found from told d)) (le-ltb d from high) (le-leb from d high)
            ∙ ap (λ b. b || is_found from told d) (or-false A) ∙ ap (λ b. A || b) (elim (cases_lt k (length told)) [
              | inl here ↦
                  let at : from + 64 * k + j ≡ d = omega (arith, high) in
                  tells k j here (omega arith) ∙ ap wanted at ∙ sym (ap (λ b. b && wanted d) (lt-ltb d end (omega (arith, here, high))))
              | inr past ↦
                  ap (λ n. bit_at n j == 1) (get_or_past told k 0 past) ∙ unset 0 j (bit_at-zero j)
                  ∙ sym (ap (λ b. b && wanted d) (le-ltb d end (omega (arith, past, high))))
            ])
      ]

  pub MarkedBelow-all : (words : List ℕ) (from : ℕ) → last < from → MarkedBelow words from →
      (d : ℕ) → base ≤ d → d ≤ last → is_found base words d ≡ (is_found base old d || (nat_le first d && test d))
  MarkedBelow-all words from over h d up down =
      h d up down ∙ ap (λ b. is_found base old d || (b && wanted d)) (lt-ltb d from (omega (arith, down, over)))

-- marks of documents from a first one on that pass
pub found_marked : (base from last : ℕ) (old new : List ℕ) (test : ℕ → Bool) (first : ℕ) → base ≤ from → from ≤ first →
    ((d : ℕ) → base ≤ d → d ≤ last → is_found base new d ≡ (is_found base old d || (nat_le first d && test d))) →
    (d : ℕ) → has (passing (is_found base new) from (suc last - from)) d
    ≡ (has (passing (is_found base old) from (suc last - from)) d || (nat_le d last && (nat_le first d && test d)))
found_marked base from last old new test first order low same d =
    let n = suc last - from in
    let p = is_found base new in
    let q = is_found base old in
    let both = has-filter p (range_with_len from n) d in
    let before = has-filter q (range_with_len from n) d in
    elim (cases_lt d from) [
      | inl under ↦
          has-below from (passing p from n) d (Rises-passing p from n) under
          ∙ sym (ap₂ (λ a b. a || (nat_le d last && (b && test d))) (has-below from (passing q from n) d (Rises-passing q from n) under)
          (lt-leb first d (omega (arith, under, low))) ∙ and-false (nat_le d last))
      | inr up ↦ elim (cases_lt last d) [
        | inl past ↦
            both ∙ ap (λ b. b && p d) (past-range from n d (omega (arith, past, up)))
            ∙ sym (ap₂ (λ a b. a || (b && (nat_le first d && test d))) (before ∙ ap (λ b. b && q d) (past-range from n d (omega (arith, past, up))))
            (lt-leb d last past))
        | inr within ↦
            let there = has-range from n d up (omega (arith, within, up)) in
            both ∙ ap (λ b. b && p d) there ∙ same d (omega (arith, order, up)) within
            ∙ sym (ap₂ (λ a b. a || (b && (nat_le first d && test d))) (before ∙ ap (λ b. b && q d) there) (le-leb d last within))
      ]
    ]

-- a window has nothing behind its last document
pub passing-behind : (p : ℕ → Bool) (a n d : ℕ) → a + n ≤ d → has (passing p a n) d ≡ false
passing-behind p a zero d high = refl
passing-behind p a (suc n) d high =
    let rest = passing-behind p (a + 1) n d (omega (arith, high)) in
    elim (cases_Bool (p a)) [
      | inl kept ↦ ap (λ b. has (cond b (a ∷ passing p (a + 1) n) (passing p (a + 1) n)) d) kept
          ∙ ap₂ (λ x y. x || y) (above_is_other a d (omega (arith, high))) rest
      | inr other ↦ ap (λ b. has (cond b (a ∷ passing p (a + 1) n) (passing p (a + 1) n)) d) other ∙ rest
    ]

pub found_behind : (w : Window) (d : ℕ) → w.last < d → has (found w) d ≡ false
found_behind w d high = elim (cases_lt w.last w.from) [
  | inl over ↦ let none : suc w.last - w.from ≡ 0 = omega (arith, over) in ap (λ n. has (passing (is_found w.base w.words) w.from n) d) none
  | inr stands ↦ passing-behind (is_found w.base w.words) w.from (suc w.last - w.from) d (omega (arith, high, stands))
]

pub found_rises : (w : Window) → Rises 0 (found w)
found_rises w = Rises-from_increasing (found w)
    (increasing-from_Rises w.from (found w) (Rises-passing (is_found w.base w.words) w.from (suc w.last - w.from)))
