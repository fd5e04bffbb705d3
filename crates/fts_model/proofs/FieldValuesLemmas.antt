-- Values that are packed: how they are spread, read and appended to.
use Rattle.std.proofs.Common.{◌≡◌, ℕ, zero, suc, ◌+◌, ◌*◌, ◌^◌, ◌/◌, ◌%◌, ◌==◌, ◌<◌, Bool, true, false, cond, List, [], ◌∷◌, ◌++◌, length, map, take}
use Rattle.std.proofs.Common.{get_or, drop, Option, Some, None, refl, sym, ap, ◌∙◌, arith, count_ones, ap₂, length-append, append-nil, subst, bit_and, ◌-◌}
use Rattle.std.specs.Prelude.{is_some, option_copied, slice_get}
use Rattle.std.specs.Borrow.{Bor}
use Rattle.std.specs.Slice.{IsItemAt}
use Rattle.std.proofs.lemmas.Option.{slice_get_past, slice_get_read}
use Rattle.std.specs.Option.{option_and_then}
use Rattle.std.specs.Int.Bits.{bit_or, or_zero_r}
use Rattle.std.specs.Simd.Lanes.{mask_l}
use Rattle.std.proofs.lemmas.List.{length-map, map-append}
use Rattle.std.proofs.lemmas.List.Elements.{filter_map-append}
use Rattle.std.specs.Int.{bit_at}
use Rattle.std.proofs.lemmas.Nat.Bits.{shr_and_one}
use Rattle.std.proofs.lemmas.Nat.{and_mask, one_shl, or_block, pow_pos}
use Rattle.std.proofs.lemmas.Simd.{bit_mask_l, mask_l-lt, ones-mask_l, ones-mask_l_cons}
use Rattle.std.proofs.Math.Arith.{mod-mul}
use Rattle.std.proofs.Math.Nat.{pow-suc}
use Rattle.std.proofs.lemmas.Bool.{ltb-false, ltb-true}
use Rattle.std.proofs.lemmas.Bool.Decides.{nat_tests}
use Rattle.fts_model.specs.Internals.FieldValues.{present_bits, present_values, spread, ArePacked}

-- the first value isn't there if the bits are even
spread_even : {X : Type 0} (n bits half : ℕ) (vs : List X) → bits ≡ 2 * half → spread (suc n) bits vs ≡ None ∷ spread n half vs
spread_even n bits half vs e =
    let low : bits % 2 ≡ 0 = omega arith in
    let high : bits / 2 ≡ half = omega arith in
    rw (low, high) refl

-- the first value is there if the bits are odd
spread_odd : {X : Type 0} (n bits half : ℕ) (v : X) (vs : List X) → bits ≡ 1 + 2 * half → spread (suc n) bits (v ∷ vs) ≡ Some v ∷ spread n half vs
spread_odd n bits half v vs e =
    let low : bits % 2 ≡ 1 = omega arith in
    let high : bits / 2 ≡ half = omega arith in
    rw (low, high) refl

-- packed values are spread to what they were
pub spread-packed : {X : Type 0} (vs : List (Option X)) → spread (length vs) (present_bits vs) (present_values vs) ≡ vs
spread-packed [] = refl
spread-packed (None ∷ vs) = spread_even (length vs) _ (present_bits vs) (present_values vs) (omega arith) ∙ ap (λ xs. None ∷ xs) (spread-packed vs)
spread-packed (Some v ∷ vs) = spread_odd (length vs) _ (present_bits vs) v (present_values vs) (omega arith) ∙ ap (λ xs. Some v ∷ xs) (spread-packed vs)

-- two lists of one length, by a test
one_length : {X : Type 0} (n : ℕ) (b : Bool) (xs ys : List X) → length xs ≡ n → length ys ≡ n → length (cond b xs ys) ≡ n
one_length n true xs ys h l = h
one_length n false xs ys h l = l

-- `n` values are spread
pub length-spread : {X : Type 0} (n bits : ℕ) (vs : List X) → length (spread n bits vs) ≡ n
length-spread zero bits vs = refl
length-spread (suc n) bits vs =
    one_length (suc n) (bits % 2 == 0) _ _ (ap suc (length-spread n (bits / 2) vs)) (ap suc (length-spread n (bits / 2) (drop 1 vs)))

-- one more bit that is set
mask_set : (ms : List Bool) → mask_l (ms ++ true ∷ []) ≡ mask_l ms + 2 ^ length ms
mask_set [] = refl
mask_set (m ∷ ms) = omega (arith, mask_set ms, pow-suc 2 (length ms))

-- one more bit that isn't
mask_clear : (ms : List Bool) → mask_l (ms ++ false ∷ []) ≡ mask_l ms
mask_clear [] = refl
mask_clear (m ∷ ms) = ap (λ n. cond m 1 0 + 2 * n) (mask_clear ms)

-- a bit above a number is set
or_above : (m n : ℕ) → m < 2 ^ n → bit_or m (2 ^ n) ≡ m + 2 ^ n
or_above m n h =
    let low : m ≡ 0 * 2 ^ n + m = omega arith in
    let top : 2 ^ n ≡ 1 * 2 ^ n + 0 = omega arith in
    ap₂ bit_or low top ∙ or_block n 0 1 m 0 h (pow_pos n) ∙ omega (arith, or_zero_r m)

-- the lowest bits of a number with one more below them
low_bits : (m : Bool) (x i : ℕ) → cond m 1 0 + 2 * (x % 2 ^ i) ≡ (cond m 1 0 + 2 * x) % 2 ^ suc i
low_bits m x i =
    let few : cond m 1 0 < 2 = grind (arith, nat_tests) in
    let half : (cond m 1 0 + 2 * x) / 2 ≡ x = omega arith in
    let low : (cond m 1 0 + 2 * x) % 2 ≡ cond m 1 0 = omega arith in
    let parts = mod-mul (cond m 1 0 + 2 * x) {m = 2 ^ i} {c = 2} (pow_pos i) (omega arith) in
    let same : (cond m 1 0 + 2 * x) % (2 ^ i * 2) ≡ (x % 2 ^ i) * 2 + cond m 1 0 = rw (half, low) at parts in
    rw pow-suc (omega (arith, same))

-- the bits of the first values
mask_take : (i : ℕ) (ms : List Bool) → mask_l (take i ms) ≡ mask_l ms % 2 ^ i
mask_take zero ms = omega arith
mask_take (suc i) [] = omega arith
mask_take (suc i) (m ∷ ms) = ap (λ n. cond m 1 0 + 2 * n) (mask_take i ms) ∙ low_bits m (mask_l ms) i

-- no value is there at a bit that isn't set
absent : {X : Type 0} (vs : List (Option X)) (i : ℕ) → get_or (map is_some vs) i false ≡ false → option_and_then (λ v. v) (slice_get vs i) ≡ None
absent [] i h = refl
absent (None ∷ vs) zero h = refl
absent (Some v ∷ vs) zero h = cc
absent (v ∷ vs) (suc i) h = absent vs i h

-- a value that is there comes after as many values as bits are set below its own
present : {X : Type 0} (vs : List (Option X)) (i : ℕ) → get_or (map is_some vs) i false ≡ true →
    slice_get (present_values vs) (count_ones (mask_l (take i (map is_some vs)))) ≡ option_and_then (λ v. v) (slice_get vs i)
present [] i h = cc
present (None ∷ vs) zero h = cc
present (Some v ∷ vs) zero h = ap (slice_get (v ∷ present_values vs)) (ones-mask_l (is_some {T = Unit {0}}) [])
present (None ∷ vs) (suc i) h =
    let fewer : count_ones (mask_l (false ∷ take i (map is_some vs))) ≡ count_ones (mask_l (take i (map is_some vs))) =
    omega (arith, ones-mask_l_cons false (take i (map is_some vs))) in
    ap (slice_get (present_values vs)) fewer ∙ present vs i h
present (Some v ∷ vs) (suc i) h =
    let more : count_ones (mask_l (true ∷ take i (map is_some vs))) ≡ suc (count_ones (mask_l (take i (map is_some vs)))) =
    omega (arith, ones-mask_l_cons true (take i (map is_some vs))) in
    ap (slice_get (v ∷ present_values vs)) more ∙ present vs i h

-- a list that ends in one more value, or none, is packed as it was with that
spread-next : {X : Type 0} (vs : List (Option X)) (o : Option X) (n bits : ℕ) (packed : List X) → length vs ≡ n → n < 32 →
    bits ≡ present_bits (vs ++ o ∷ []) → packed ≡ present_values (vs ++ o ∷ []) →
    (spread (n + 1) bits packed ≡ vs ++ o ∷ []) × ArePacked (spread (n + 1) bits packed) bits packed
spread-next {X = X} vs o n bits packed long few b p =
    let us : List (Option X) = vs ++ o ∷ [] in
    let more : n + 1 ≡ length us = omega (arith, length-append vs (o ∷ []), long) in
    let same : spread (n + 1) bits packed ≡ us = ap (λ k. spread k bits packed) more ∙ ap₂ (spread (length us)) b p ∙ spread-packed us in
    (same, subst (λ ws. ArePacked ws bits packed) (sym same) (record { few = omega (arith, more, few); bits_are = b; values_are = p }))

-- one more that isn't there
pub push-none : {X : Type 0} (n bits : ℕ) (packed : List X) → n < 32 → ArePacked (spread n bits packed) bits packed →
    (spread (n + 1) bits packed ≡ spread n bits packed ++ None ∷ []) × ArePacked (spread (n + 1) bits packed) bits packed
push-none {X = X} n bits packed few h =
    let vs : List (Option X) = spread n bits packed in
    spread-next vs None n bits packed (length-spread n bits packed) few
    (h.bits_are ∙ sym (ap mask_l (map-append is_some vs (None ∷ [])) ∙ mask_clear (map is_some vs)))
    (h.values_are ∙ sym (filter_map-append (λ v. v) vs (None ∷ []) ∙ append-nil (present_values vs)))

-- one more that is there
pub push-some : {X : Type 0} (n bits : ℕ) (packed : List X) (v : X) → n < 32 → ArePacked (spread n bits packed) bits packed →
    (spread (n + 1) (bit_or bits (1 * 2 ^ n % 2 ^ 32)) (packed ++ v ∷ []) ≡ spread n bits packed ++ Some v ∷ [])
    × ArePacked (spread (n + 1) (bit_or bits (1 * 2 ^ n % 2 ^ 32)) (packed ++ v ∷ [])) (bit_or bits (1 * 2 ^ n % 2 ^ 32)) (packed ++ v ∷ [])
push-some {X = X} n bits packed v few h =
    let vs : List (Option X) = spread n bits packed in
    let ms : List Bool = map is_some vs in
    let long : length vs ≡ n = length-spread n bits packed in
    let count : length ms ≡ n = length-map vs is_some ∙ long in
    let below : bits < 2 ^ n = subst (λ b. b < 2 ^ n) (sym h.bits_are) (subst (λ k. mask_l ms < 2 ^ k) count (mask_l-lt ms)) in
    spread-next vs (Some v) n (bit_or bits (1 * 2 ^ n % 2 ^ 32)) (packed ++ v ∷ []) long few
    (ap (bit_or bits) (one_shl n 32 few) ∙ or_above bits n below ∙ ap₂ (λ b k. b + 2 ^ k) h.bits_are (sym count)
    ∙ sym (ap mask_l (map-append is_some vs (Some v ∷ [])) ∙ mask_set ms))
    (ap (λ xs. xs ++ v ∷ []) h.values_are ∙ sym (filter_map-append (λ v. v) vs (Some v ∷ [])))

-- what a bit of packed values tells
bit_is : {X : Type 0} (vs : List (Option X)) (bits : ℕ) (packed : List X) (i : ℕ) → ArePacked vs bits packed →
    bit_and (bits / 2 ^ i) 1 ≡ cond (get_or (map is_some vs) i false) 1 0
bit_is vs bits packed i h = shr_and_one bits i ∙ ap (λ b. bit_at b i) h.bits_are ∙ bit_mask_l (map is_some vs) i

-- a bit by its number
is_clear : (b : Bool) → ◌≡◌ {A = ℕ} (cond b 1 0) 0 → b ≡ false
is_clear true h = cc
is_clear false h = refl

is_set : (b : Bool) → 0 < cond b 1 0 → b ≡ true
is_set true h = refl
is_set false h = absurd (omega arith)

-- no value is there if its bit isn't set
pub read-none : {X : Type 0} (vs : List (Option X)) (bits : ℕ) (packed : List X) (i : ℕ) → ArePacked vs bits packed →
    bit_and (bits / 2 ^ i) 1 ≡ 0 → None ≡ option_and_then (λ v. v) (slice_get vs i)
read-none vs bits packed i h e = sym (absent vs i (is_clear _ (sym (bit_is vs bits packed i h) ∙ e)))

-- a value whose bit is set comes after as many as there are set bits below
pub read-some : {X : Type 0} (vs : List (Option X)) (bits : ℕ) (packed : List X) (i : ℕ) → ArePacked vs bits packed → i < 32 →
    0 < bit_and (bits / 2 ^ i) 1 →
    slice_get packed (count_ones (bit_and bits (1 * 2 ^ i % 2 ^ 32 - 1))) ≡ option_and_then (λ v. v) (slice_get vs i)
read-some vs bits packed i h few e =
    let low : bit_and bits (1 * 2 ^ i % 2 ^ 32 - 1) ≡ mask_l (take i (map is_some vs)) =
    ap (λ k. bit_and bits (k - 1)) (one_shl i 32 few) ∙ and_mask bits i ∙ ap (λ b. b % 2 ^ i) h.bits_are ∙ sym (mask_take i (map is_some vs)) in
    ap₂ (λ ps b. slice_get ps (count_ones b)) h.values_are low
    ∙ present vs i (is_set _ (subst (λ b. 0 < b) (bit_is vs bits packed i h) e))

-- what is read of a list is its element, if there is one
pub copied_item : {X : Type 0} (xs : List X) (i : ℕ) (r : Option (Bor X)) → IsItemAt xs i r → option_copied r ≡ slice_get xs i
copied_item xs i None h = sym (slice_get_past xs i (ltb-false i (length xs) (sym h.0)))
copied_item xs i (Some b) h = sym (slice_get_read xs (length xs) i b.now refl (ltb-true i (length xs) (sym h.0)) h.1)
