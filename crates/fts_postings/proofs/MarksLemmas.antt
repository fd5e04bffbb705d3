-- Documents as the bits of a word: what is left once the lowest bit is gone.
use Rattle.std.proofs.Common.{◌≡◌, ℕ, zero, suc, ◌+◌, ◌-◌, ◌/◌, ◌%◌, ◌^◌, ◌<◌, ◌≤◌, Bool, true, false, ◌==◌, List, [], ◌∷◌, ◌++◌, length, take, set, drop, sym}
use Rattle.std.proofs.Common.{ap, ◌∙◌, inl, inr, arith}
use Rattle.std.specs.Int.{bit_at, w64, trailing_zeros}
use Rattle.std.specs.Int.RustNames.{bit_and}
use Rattle.std.proofs.lemmas.Bool.{cases_Bool, cases_lt}
use Rattle.std.proofs.lemmas.List.{append_assoc, take_more_set}
use Rattle.std.proofs.lemmas.Nat.Bits.{bit_at_and, bit_at_lowest, bit_at-suc, bit_at-trailing_zeros, bit_at-lt}
use Rattle.fts_postings.specs.Windows.{is_marked, marked, passing}
use Rattle.fts_postings.proofs.WindowLemmas.{marked-nothing, passing-at, passing-next}

-- one less: the lowest bit is gone, and those above it stay
lowest_gone : (t n : ℕ) → bit_at n t ≡ 1 → ((j : ℕ) → j < t → bit_at n j ≡ 0) → bit_at (n - 1) t ≡ 0
lowest_gone zero n is low = omega (arith, is, bit_at_lowest n, bit_at_lowest (n - 1))
lowest_gone (suc t) n is low =
    let even : n % 2 ≡ 0 = sym (bit_at_lowest n) ∙ low 0 (omega arith) in
    let half : (n - 1) / 2 ≡ n / 2 - 1 = omega (arith, even) in
    bit_at-suc (n - 1) t ∙ ap (λ m. bit_at m t) half
    ∙ lowest_gone t (n / 2) (sym (bit_at-suc n t) ∙ is) (λ j lt. sym (bit_at-suc n j) ∙ low (suc j) (omega (arith, lt)))

above_stay : (t n i : ℕ) → bit_at n t ≡ 1 → ((j : ℕ) → j < t → bit_at n j ≡ 0) → t < i → bit_at (n - 1) i ≡ bit_at n i
above_stay t n zero is low over = absurd (omega (arith, over))
above_stay zero n (suc i) is low over =
    let odd : n % 2 ≡ 1 = sym (bit_at_lowest n) ∙ is in
    let half : (n - 1) / 2 ≡ n / 2 = omega (arith, odd) in
    bit_at-suc (n - 1) i ∙ ap (λ m. bit_at m i) half ∙ sym (bit_at-suc n i)
above_stay (suc t) n (suc i) is low over =
    let even : n % 2 ≡ 0 = sym (bit_at_lowest n) ∙ low 0 (omega arith) in
    let half : (n - 1) / 2 ≡ n / 2 - 1 = omega (arith, even) in
    bit_at-suc (n - 1) i ∙ ap (λ m. bit_at m i) half
    ∙ above_stay t (n / 2) i (sym (bit_at-suc n t) ∙ is) (λ j lt. sym (bit_at-suc n j) ∙ low (suc j) (omega (arith, lt))) (omega (arith, over))
    ∙ sym (bit_at-suc n i)

-- there are no more than places
length-passing : (p : ℕ → Bool) (a n : ℕ) → length (passing p a n) ≤ n
length-passing p a zero = omega arith
length-passing p a (suc n) = elim (cases_Bool (p a)) [
  | inl kept ↦ rw kept (omega (arith, length-passing p (a + 1) n))
  | inr other ↦ rw other (omega (arith, length-passing p (a + 1) n))
]

pub length-marked : (from last marks : ℕ) → length (marked from last marks) ≤ suc last - from
length-marked from last marks = length-passing (is_marked from marks) from (suc last - from)

-- none is marked
pub none_marked : (from last marks : ℕ) → marks ≡ 0 → marked from last marks ≡ []
none_marked from last marks none = ap (marked from last) none ∙ marked-nothing from last

module _ (from last marks : ℕ) (some : 0 < marks) (fits : marks < 2 ^ 64) where
  abbrev lowest : ℕ
  lowest = trailing_zeros w64 marks

  abbrev later : ℕ
  later = bit_and marks (marks - 1)

  abbrev place : (lowest < 64) × (bit_at marks lowest ≡ 1) × ((i : ℕ) → i < lowest → bit_at marks i ≡ 0)
  place = bit_at-trailing_zeros w64 marks some fits

  here : is_marked from marks (from + lowest) ≡ true
  here = let at : from + lowest - from ≡ lowest = omega arith in ap (λ k. bit_at marks k == 1) at ∙ ap (λ b. b == 1) place.1

  before : (d : ℕ) → from ≤ d → d < from + lowest → is_marked from marks d ≡ false
  before d up down = ap (λ b. b == 1) (place.2 (d - from) (omega (arith, up, down)))

  gone : (d : ℕ) → from ≤ d → d < from + suc lowest → is_marked from later d ≡ false
  gone d up down =
      let clear : bit_at later (d - from) ≡ 0 = elim (cases_lt (d - from) lowest) [
        | inl low ↦ omega (arith, bit_at_and marks (marks - 1) (d - from), place.2 (d - from) low)
        | inr high ↦
            let same : d - from ≡ lowest = omega (arith, up, down, high) in
            let left : bit_at later lowest ≡ 0 = omega (arith, bit_at_and marks (marks - 1) lowest, lowest_gone lowest marks place.1 place.2) in
            ap (bit_at later) same ∙ left
      ] in
      ap (λ b. b == 1) clear

  rest : (d : ℕ) → from + suc lowest ≤ d → is_marked from later d ≡ is_marked from marks d
  rest d up =
      let same : bit_at later (d - from) ≡ bit_at marks (d - from) =
      omega (arith, bit_at_and marks (marks - 1) (d - from), above_stay lowest marks (d - from) place.1 place.2 (omega (arith, up))) in
      ap (λ b. b == 1) same

  -- the first that is marked, and the others
  pub marked-lowest : from + 63 ≤ last → marked from last marks ≡ (from + lowest) ∷ marked from last later
  marked-lowest long =
      let n = suc last - from in
      let room : lowest < n = omega (arith, place.0, long) in
      let split = passing-at (is_marked from marks) from lowest n room before here in
      let left = passing-next (is_marked from marks) (is_marked from later) from lowest n room before here gone (λ d up down. rest d up) in
      split ∙ ap (λ xs. (from + lowest) ∷ xs) (sym (left ∙ ap (drop 1) split))

  pub lowest_below : (bound : ℕ) → ((k : ℕ) → bit_at marks k ≡ 1 → from + k < bound) → from + lowest < bound
  lowest_below bound few = few lowest place.1

-- what is left has no other marks
pub others_below : (from marks bound : ℕ) → ((k : ℕ) → bit_at marks k ≡ 1 → from + k < bound) → (k : ℕ) → bit_at (bit_and marks (marks - 1)) k ≡ 1 →
    from + k < bound
others_below from marks bound few k is = few k (omega (arith, is, bit_at_and marks (marks - 1) k, bit_at-lt marks k))

-- the lowest is written after the others
pub lowest_written : (out : List ℕ) (count from last marks : ℕ) → 0 < marks → marks < 2 ^ 64 → from + 63 ≤ last → count < length out →
    take (count + 1) (set out count (from + trailing_zeros w64 marks)) ++ marked from last (bit_and marks (marks - 1)) ≡ take count out
    ++ marked from last marks
lowest_written out count from last marks some fits long room =
    let x = from + trailing_zeros w64 marks in
    let left = marked from last (bit_and marks (marks - 1)) in
    ap (λ xs. xs ++ left) (take_more_set out count x room) ∙ append_assoc (take count out) (x ∷ []) left
    ∙ ap (λ xs. take count out ++ xs) (sym (marked-lowest from last marks some fits long))
