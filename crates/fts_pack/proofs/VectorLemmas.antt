-- Shifts and masks of four lanes.
use Rattle.std.proofs.Common.{◌≡◌, ℕ, zero, suc, ◌+◌, ◌-◌, ◌*◌, ◌/◌, ◌%◌, ◌^◌, ◌<◌, ◌≤◌, List, [], ◌∷◌, length, get_or, bit_and, bit_or, Fits, w32, sym, ap}
use Rattle.std.proofs.Common.{◌∙◌, subst, add_comm, mod-eq_of_lt, take, drop, inl, inr, length-drop, arith}
use Rattle.std.specs.Simd.Lanes.{zip2}
use Rattle.std.proofs.lemmas.Simd.{length-put_chunk, get_or-put_chunk_at, get_or-put_chunk_above}
use Rattle.std.proofs.lemmas.List.{get_or_append_left, get_or-append_right, get_or-take, get_or-drop, length-take-le}
use Rattle.std.proofs.lemmas.Bool.{cases_lt}
use borrow.Rule.Slice.PartMut.{put_mid, mid_of}
use lib.Lanes.{put_chunk, Each1}
use Rattle.std.proofs.Math.Facts.{Fits-lt-pow}
use Rattle.std.proofs.Math.Nat.{mul-add-div_right, mul-add-mod_self_right}
use Rattle.std.proofs.lemmas.Nat.{pow_pos, pow-add, and_mask, shr_below, div-add-mod', mod_below, shl_below}
use Rattle.std.specs.Int.Bits.{or_shifted_r}
use Rattle.fts_pack.proofs.DigitsLemmas.{field_low}

pub below_four : (P : ℕ → Type 0) → P 0 → P 1 → P 2 → P 3 → (j : ℕ) → j < 4 → P j
below_four P p0 p1 p2 p3 zero h = p0
below_four P p0 p1 p2 p3 (suc zero) h = p1
below_four P p0 p1 p2 p3 (suc (suc zero)) h = p2
below_four P p0 p1 p2 p3 (suc (suc (suc zero))) h = p3
below_four P p0 p1 p2 p3 (suc (suc (suc (suc n)))) h = absurd (omega arith)

pub four_lanes : (P : List ℕ → Type 0) → ((a b c d : ℕ) → P (a ∷ b ∷ c ∷ d ∷ [])) → (xs : List ℕ) → length xs ≡ 4 → P xs
four_lanes P p (a ∷ b ∷ c ∷ d ∷ []) h = p a b c d
four_lanes P p [] h = absurd (omega arith)
four_lanes P p (a ∷ []) h = absurd (omega arith)
four_lanes P p (a ∷ b ∷ []) h = absurd (omega arith)
four_lanes P p (a ∷ b ∷ c ∷ []) h = absurd (omega arith)
four_lanes P p (a ∷ b ∷ c ∷ d ∷ e ∷ xs) h = absurd (omega arith)

-- a vector of four equal numbers
abbrev pub splat : ℕ → List ℕ
splat x = x ∷ x ∷ x ∷ x ∷ []

field_within : (shift width mask : ℕ) → mask ≡ 2 ^ width - 1 → (x : ℕ) → bit_and (x / 2 ^ shift) mask ≡ x / 2 ^ shift % 2 ^ width
field_within shift width mask mask_is x = rw mask_is (and_mask (x / 2 ^ shift) width)

abbrev pub IsWithin : ℕ → ℕ → ℕ → List ℕ → Type 0
IsWithin shift width mask low = (lane : ℕ) → lane < 4 → get_or (zip2 bit_and (zip2 (λ x n. x / 2 ^ n) low (splat shift)) (splat mask)) lane 0
    ≡ get_or low lane 0 / 2 ^ shift % 2 ^ width

pub within_lanes : (shift width mask : ℕ) → mask ≡ 2 ^ width - 1 → shift < 32 → (low : List ℕ) → length low ≡ 4 → IsWithin shift width mask low
within_lanes shift width mask mask_is short =
    let f = field_within shift width mask mask_is in
    four_lanes (IsWithin shift width mask) (λ a b c d. below_four _ ((f a)) ((f b)) ((f c)) ((f d)))

-- the low bits of a number, shifted up in a word
moved_up : (y s r : ℕ) → y * 2 ^ r % 2 ^ (s + r) ≡ y % 2 ^ s * 2 ^ r
moved_up y s r =
    let high = y / 2 ^ s in
    let low = y % 2 ^ s in
    let whole : y ≡ high * 2 ^ s + low = sym (div-add-mod' y (2 ^ s)) in
    let below : low * 2 ^ r < 2 ^ (s + r) = shl_below low s r (mod_below y (2 ^ s) (pow_pos s)) in
    let parted : y * 2 ^ r ≡ high * 2 ^ (s + r) + low * 2 ^ r = ap (λ n. n * 2 ^ r) whole ∙ (rw (pow-add 2 s r) (omega arith)) in
    ap (λ n. n % 2 ^ (s + r)) parted ∙ mul-add-mod_self_right high (2 ^ (s + r)) (low * 2 ^ r) ∙ mod-eq_of_lt below

pub field_across : (word s r width : ℕ) → s + r ≡ word → width ≤ word → (x y : ℕ) → x < 2 ^ word
    → bit_and (bit_or (x / 2 ^ s) (y * 2 ^ r % 2 ^ word)) (2 ^ width - 1) ≡ (y * 2 ^ word + x) / 2 ^ s % 2 ^ width
field_across word s r width whole narrow x y fits =
    let high = y / 2 ^ s in
    let m = y % 2 ^ s in
    let top : 2 ^ word ≡ 2 ^ r * 2 ^ s = ap (λ n. 2 ^ n) (sym whole ∙ add_comm s r) ∙ pow-add 2 r s in
    let moved : y * 2 ^ r % 2 ^ word ≡ m * 2 ^ r = ap (λ n. y * 2 ^ r % 2 ^ n) (sym whole) ∙ moved_up y s r in
    let low : x / 2 ^ s < 2 ^ r = shr_below x r s (subst (λ n. x < n) (top ∙ sym (pow-add 2 r s)) fits) in
    let joined : bit_or (x / 2 ^ s) (y * 2 ^ r % 2 ^ word) ≡ m * 2 ^ r + x / 2 ^ s = ap (λ n. bit_or (x / 2 ^ s) n) moved ∙ or_shifted_r m r (x / 2 ^ s) low in
    let cut : m * 2 ^ word + x ≡ (m * 2 ^ r) * 2 ^ s + x = ap (λ n. m * n + x) top ∙ omega arith in
    let lower : (m * 2 ^ word + x) / 2 ^ s ≡ m * 2 ^ r + x / 2 ^ s = ap (λ n. n / 2 ^ s) cut ∙ mul-add-div_right (pow_pos s) (m * 2 ^ r) x in
    let parted : y ≡ high * 2 ^ s + m = sym (div-add-mod' y (2 ^ s)) in
    let upper : y * 2 ^ word + x ≡ high * 2 ^ (word + s) + (m * 2 ^ word + x) = ap (λ n. n * 2 ^ word + x) parted ∙ (rw (pow-add 2 word s) (omega arith)) in
    and_mask (bit_or (x / 2 ^ s) (y * 2 ^ r % 2 ^ word)) width
    ∙ ap (λ n. n % 2 ^ width) (joined ∙ sym lower)
    ∙ sym (field_low high (word + s) s width (m * 2 ^ word + x) (omega arith))
    ∙ ap (λ n. n / 2 ^ s % 2 ^ width) (sym upper)

field_across_at : (shift width mask : ℕ) → mask ≡ 2 ^ width - 1 → shift < 32 → width ≤ 32 → (x y : ℕ) → x < 2 ^ 32
    → bit_and (bit_or (x / 2 ^ shift) (y * 2 ^ (32 - shift) % 2 ^ 32)) mask ≡ (y * 2 ^ 32 + x) / 2 ^ shift % 2 ^ width
field_across_at shift width mask mask_is short narrow x y fits =
    rw mask_is (field_across 32 shift (32 - shift) width (omega arith) narrow x y fits)

abbrev pub IsAcross : ℕ → ℕ → ℕ → List ℕ → List ℕ → Type 0
IsAcross shift width mask low high = (lane : ℕ) → lane < 4
    → get_or (zip2 bit_and (zip2 bit_or (zip2 (λ x n. x / 2 ^ n) low (splat shift)) (zip2 (λ x n. x * 2 ^ n % 2 ^ 32) high (splat (32 - shift)))) (splat mask))
    lane 0
    ≡ (get_or high lane 0 * 2 ^ 32 + get_or low lane 0) / 2 ^ shift % 2 ^ width

pub across_lanes : (shift width mask : ℕ) → mask ≡ 2 ^ width - 1 → 0 < shift → shift < 32 → width ≤ 32 → (low : List ℕ) → length low ≡ 4 → (high : List ℕ) →
    length high ≡ 4 → Each1 (Fits w32) low → IsAcross shift width mask low high
across_lanes shift width mask mask_is some short narrow =
    let f = field_across_at shift width mask mask_is short narrow in
    four_lanes (λ low. (high : List ℕ) → length high ≡ 4 → Each1 (Fits w32) low → IsAcross shift width mask low high) (λ a b c d.
    four_lanes (λ high. Each1 (Fits w32) (a ∷ b ∷ c ∷ d ∷ []) → IsAcross shift width mask (a ∷ b ∷ c ∷ d ∷ []) high) (λ e g h i fits.
    below_four _
    (f a e (Fits-lt-pow fits.0))
    (f b g (Fits-lt-pow fits.1.0))
    (f c h (Fits-lt-pow fits.1.1.0))
    (f d i (Fits-lt-pow fits.1.1.1.0))))

-- a vector written at an index
pub placed : (a : ℕ) (out row numbers : List ℕ) → length out ≡ 128 → length row ≡ 4 → a + 4 ≤ 128
    → ((i : ℕ) → i < a → get_or out i 0 ≡ get_or numbers i 0)
    → ((lane : ℕ) → lane < 4 → get_or row lane 0 ≡ get_or numbers (a + lane) 0)
    → (i : ℕ) → i < a + 4 → get_or (put_mid a (128 - a) out (put_chunk 0 (mid_of a (128 - a) out) row)) i 0 ≡ get_or numbers i 0
placed a out row numbers long four room before at i inside =
    let mid = mid_of a (128 - a) out in
    let size : length (take a out) ≡ a = length-take-le a out (omega arith) in
    elim (cases_lt i a) [
      | inl low ↦ get_or_append_left (take a out) _ 0 i (omega arith) ∙ get_or-take a out i 0 low ∙ before i low
      | inr high ↦ (
          let k = i - a in
          let back : a + k ≡ i = omega arith in
          let small : k < 4 = omega arith in
          let rest : length (drop a out) ≡ 128 - a = length-drop a out ∙ ap (λ n. n - a) long in
          let reach : length mid ≡ 128 - a = length-take-le (128 - a) (drop a out) (omega arith) in
          let none : k ≡ 0 + k = omega arith in
          let written : length (put_chunk 0 mid row) ≡ 128 - a = length-put_chunk 0 mid row ∙ reach in
          get_or-append_right (take a out) _ a i 0 size high
          ∙ get_or_append_left (put_chunk 0 mid row) _ 0 k (omega arith)
          ∙ ap (λ n. get_or (put_chunk 0 mid row) n 0) none
          ∙ get_or-put_chunk_at 0 mid row k 0 (omega arith) (omega arith)
          ∙ at k small
          ∙ ap (λ n. get_or numbers n 0) back
          )
    ]

-- the elements of a vector that is written at an index, and those after it
pub placed_there : (a : ℕ) (out row : List ℕ) → length out ≡ 128 → length row ≡ 4 → a + 4 ≤ 128 → (lane : ℕ) → lane < 4 →
    get_or (put_mid a (128 - a) out (put_chunk 0 (mid_of a (128 - a) out) row)) (a + lane) 0 ≡ get_or row lane 0
placed_there a out row long four room lane small =
    let mid = mid_of a (128 - a) out in
    let size : length (take a out) ≡ a = length-take-le a out (omega arith) in
    let rest : length (drop a out) ≡ 128 - a = length-drop a out ∙ ap (λ n. n - a) long in
    let reach : length mid ≡ 128 - a = length-take-le (128 - a) (drop a out) (omega arith) in
    let written : length (put_chunk 0 mid row) ≡ 128 - a = length-put_chunk 0 mid row ∙ reach in
    let k : (a + lane) - a ≡ lane = omega arith in
    let none : lane ≡ 0 + lane = omega arith in
    get_or-append_right (take a out) _ a (a + lane) 0 size (omega arith)
    ∙ get_or_append_left (put_chunk 0 mid row) _ 0 ((a + lane) - a) (omega arith)
    ∙ ap (λ n. get_or (put_chunk 0 mid row) n 0) (k ∙ none)
    ∙ get_or-put_chunk_at 0 mid row lane 0 (omega arith) (omega arith)

pub placed_after : (a : ℕ) (out row : List ℕ) → length out ≡ 128 → length row ≡ 4 → a + 4 ≤ 128 → (i : ℕ) → a + 4 ≤ i → i < 128 →
    get_or (put_mid a (128 - a) out (put_chunk 0 (mid_of a (128 - a) out) row)) i 0 ≡ get_or out i 0
placed_after a out row long four room i past inside =
    let mid = mid_of a (128 - a) out in
    let size : length (take a out) ≡ a = length-take-le a out (omega arith) in
    let rest : length (drop a out) ≡ 128 - a = length-drop a out ∙ ap (λ n. n - a) long in
    let reach : length mid ≡ 128 - a = length-take-le (128 - a) (drop a out) (omega arith) in
    let written : length (put_chunk 0 mid row) ≡ 128 - a = length-put_chunk 0 mid row ∙ reach in
    let back : a + (i - a) ≡ i = omega arith in
    get_or-append_right (take a out) _ a i 0 size (omega arith)
    ∙ get_or_append_left (put_chunk 0 mid row) _ 0 (i - a) (omega arith)
    ∙ get_or-put_chunk_above 0 mid row (i - a) 0 (omega arith)
    ∙ get_or-take (128 - a) (drop a out) (i - a) 0 (omega arith)
    ∙ get_or-drop a out (i - a) 0
    ∙ ap (λ n. get_or out n 0) back
