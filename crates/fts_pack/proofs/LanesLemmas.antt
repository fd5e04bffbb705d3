-- Arrays of offsets: their padding, and the masks of 64 elements.
use Rattle.std.proofs.Common.{◌≡◌, ℕ, zero, suc, ◌+◌, ◌-◌, ◌*◌, ◌/◌, ◌%◌, ◌^◌, ◌<◌, ◌≤◌, Bool, true, false, cond, ◌==◌, ◌&&◌, nat_le, Option, Some, None}
use Rattle.std.proofs.Common.{is_some, IfSome, List, [], ◌∷◌, ◌++◌, length, take, drop, get_or, map, min, mod-eq_of_lt, replicate, refl, sym, ap, ap₂, subst}
use Rattle.std.proofs.Common.{◌∙◌, inl, inr, arith}
use Rattle.std.specs.Int.{bit_at}
use Rattle.std.specs.Int.RustNames.{bit_and}
use Rattle.std.proofs.lemmas.Bool.{cases_lt}
use Rattle.std.proofs.lemmas.List.{get_or-drop, get_or-map, get_or-take, get_or_past, length-append, length-map, length-replicate, length-take, length-take-le}
use Rattle.std.proofs.lemmas.List.{map-append, take_all, take_more}
use Rattle.std.proofs.lemmas.Nat.Bits.{bit_at_and, bit_at_lowest, bit_at-suc, bit_at-zero, bit_at-lt}
use Rattle.std.proofs.lemmas.Simd.{bit_mask_l, bitmask_splat, map-map, zip2_splat}
use Rattle.std.proofs.Math.Nat.{add-mul-mod_self_left}
use Rattle.std.proofs.Math.Pow.{pow_mono}
use Rattle.std.proofs.Math.Seq.{take-append_seam}
use lib.Lanes.{mask_l, top, zip2}
use lib.Dec.{leb}
use mir.Syntax.{Width}
use mir.Val.{bits, hbits}
use Rattle.fts_pack.specs.bits.Bits.{number_of}
use Rattle.fts_pack.specs.bits.Digits.{joined}
use Rattle.fts_pack.specs.column.Column.{is_within, least_of, IsColumn}
use Rattle.fts_pack.specs.column.OffsetArray.{AreLanesOf, AreMarked}
use Rattle.fts_pack.proofs.ColumnLemmas.{lane_there, presence-at}

-- a number fits an integer of as many bits as it needs
pub fits_lane : (x width room : ℕ) → x < 2 ^ width → x < 2 ^ 64 → min width 64 ≤ room → x < 2 ^ room
fits_lane x width room small fits wide = elim (cases_lt width 64) [
  | inl less ↦ (
      let le : width ≤ room = omega (arith, less, wide) in
      let power : 2 ^ width ≤ 2 ^ room = pow_mono le in
      omega (arith, small, power))
  | inr more ↦ (
      let le : 64 ≤ room = omega (arith, more, wide) in
      let power : 2 ^ 64 ≤ 2 ^ room = pow_mono le in
      omega (arith, fits, power))
]

-- one more number has its element
pub lanes_more : {A : Type 0} (value : A → ℕ) (numbers : List ℕ) (lanes : List A) (lane : A) (i : ℕ) → map value lanes ≡ take i numbers → i < length numbers →
    value lane ≡ get_or numbers i 0 → map value (lanes ++ lane ∷ []) ≡ take (i + 1) numbers
lanes_more value numbers lanes lane i before inside is =
    map-append value lanes (lane ∷ []) ∙ ap₂ (λ xs x. xs ++ x ∷ []) before is ∙ sym (take_more numbers i 0 inside)

-- all numbers have their elements, and the array is padded
pub lanes_filled : {A : Type 0} (value : A → ℕ) (numbers : List ℕ) (lanes : List A) (lane : A) (len count i : ℕ) → map value lanes ≡ take i numbers →
    length numbers ≡ i → len ≡ length lanes → i ≤ count → count % 64 ≡ 0 → AreLanesOf numbers (map value (take count lanes ++ replicate (count - len) lane))
lanes_filled value numbers lanes lane len count i before size long room whole =
    let all : map value lanes ≡ numbers = before ∙ take_all i numbers (omega (arith, size)) in
    let same : length lanes ≡ i = sym (length-map lanes value) ∙ ap length all ∙ size in
    let more = replicate (count - len) lane in
    let rest = map value more in
    let laid : map value (take count lanes ++ more) ≡ numbers ++ rest = ap (λ xs. map value (xs ++ more)) (take_all count lanes (omega (arith, same, room)))
    ∙ map-append value lanes more ∙ ap (λ xs. xs ++ rest) all in
    let filled : length (numbers ++ rest) ≡ count =
    omega (arith, length-append numbers rest, length-map more value, length-replicate (count - len) lane, size, long, same, room) in
    rw laid (record {
      first = take-append_seam numbers rest;
      enough = omega (arith, filled, size, room);
      whole = ap (λ k. k % 64) filled ∙ whole;
    })

-- the difference of a number and a least one, modulo a power of two
abbrev above_by : ℕ → ℕ → ℕ → ℕ
above_by m x low = (x + (m - low)) % m

marks-are : (w : Width) (numbers : List ℕ) (low span : ℕ) → length numbers ≡ 64 →
    mask_l (map (top (hbits w)) (zip2 (λ a b. cond (leb a b) (2 ^ bits w - 1) 0) (zip2 (above_by (2 ^ bits w)) numbers (replicate 64 low)) (replicate 64 span)))
    % 2 ^ 64 ≡ mask_l (map (λ x. leb (above_by (2 ^ bits w) x low) span) numbers)
marks-are w numbers low span long =
    let above = above_by (2 ^ bits w) in
    let size : length (map (λ x. above x low) numbers) ≡ 64 = length-map numbers (λ x. above x low) ∙ long in
    ap (λ xs. mask_l (map (top (hbits w)) (zip2 (λ a b. cond (leb a b) (2 ^ bits w - 1) 0) xs (replicate 64 span))) % 2 ^ 64)
    (zip2_splat above numbers 64 low long)
    ∙ bitmask_splat w leb (map (λ x. above x low) numbers) 64 span size (omega arith)
    ∙ ap mask_l (map-map (λ x. leb x span) (λ x. above x low) numbers)

-- one comparison decides both bounds
compare : (m x low high : ℕ) → low ≤ high → high < m → x < m → leb (above_by m x low) (high - low) ≡ (nat_le low x && nat_le x high)
compare m x low high order fits small = elim (cases_lt x low) [
  | inl under ↦ (let wraps : above_by m x low ≡ x + (m - low) = mod-eq_of_lt (omega (arith, under, order, fits)) in grind arith)
  | inr over ↦ (
      let around : x + (m - low) ≡ (x - low) + m * 1 = omega (arith, over, order, fits) in
      let plain : above_by m x low ≡ x - low = ap (λ n. n % m) around ∙ add-mul-mod_self_left (x - low) m 1 ∙ mod-eq_of_lt (omega (arith, small)) in
      grind arith)
]

marked_one : (b : Bool) → (cond b 1 0 == 1) ≡ b
marked_one true = refl
marked_one false = refl

marks-within : (m : ℕ) → (numbers : List ℕ) (low high : ℕ) → length numbers ≡ 64 → low ≤ high → high < m → ((k : ℕ) → get_or numbers k 0 < m) →
    AreMarked numbers low high (mask_l (map (λ x. leb (above_by m x low) (high - low)) numbers))
marks-within m numbers low high long order fits small k lt =
    let test = λ (x : ℕ). leb (above_by m x low) (high - low) in
    ap (λ n. n == 1) (bit_mask_l (map test numbers) k) ∙ marked_one (get_or (map test numbers) k false)
    ∙ get_or-map test numbers k 0 false (omega (arith, long, lt))
    ∙ compare m (get_or numbers k 0) low high order fits (small k)

-- the mask of the first 64 of more numbers
AreMarked-first : (numbers : List ℕ) (low high marks : ℕ) → AreMarked (take 64 numbers) low high marks → AreMarked numbers low high marks
AreMarked-first numbers low high marks h k lt =
    h k lt ∙ ap (λ x. nat_le low x && nat_le x high) (get_or-take 64 numbers k 0 lt)

small_first : (numbers : List ℕ) (m : ℕ) → ((k : ℕ) → get_or numbers k 0 < m) → (k : ℕ) → get_or (take 64 numbers) k 0 < m
small_first numbers m small k = elim (cases_lt k 64) [
  | inl lt ↦ subst (λ x. x < m) (sym (get_or-take 64 numbers k 0 lt)) (small k)
  | inr past ↦ (
      let none : get_or (take 64 numbers) k 0 ≡ 0 = get_or_past (take 64 numbers) k 0 (omega (arith, past, length-take 64 numbers)) in
      omega (arith, none, small k))
]

-- the mask that a comparison of all elements gives
compared : (w : Width) → (numbers : List ℕ) (low high : ℕ) → 64 ≤ length numbers → low ≤ high → high < 2 ^ bits w → ((k : ℕ) → get_or numbers k 0 < 2 ^ bits w)
    → AreMarked numbers low high
    (mask_l (map (top (hbits w)) (zip2 (λ a b. cond (leb a b) (2 ^ bits w - 1) 0) (zip2 (above_by (2 ^ bits w)) (take 64 numbers) (replicate 64 low))
    (replicate 64 (high - low)))) % 2 ^ 64)
compared w numbers low high long order fits small =
    let first = take 64 numbers in
    let size : length first ≡ 64 = length-take-le 64 numbers long in
    AreMarked-first numbers low high _ (subst (λ m. AreMarked first low high m) (sym (marks-are w first low (high - low) size))
    (marks-within (2 ^ bits w) first low high size order fits (small_first numbers (2 ^ bits w) small)))

-- a bound above all numbers can be lowered
bounded : (numbers : List ℕ) (low high bound other marks : ℕ) → other ≡ min high bound → ((k : ℕ) → get_or numbers k 0 ≤ bound) →
    AreMarked numbers low other marks → AreMarked numbers low high marks
bounded numbers low high bound other marks is most h k lt =
    let x = get_or numbers k 0 in
    let same : (nat_le low x && nat_le x other) ≡ (nat_le low x && nat_le x high) = (let le : x ≤ bound = most k in grind arith) in
    h k lt ∙ same

-- the mask that a comparison of all elements gives, if the greater bound is cut to the greatest number of an element
pub marked_lanes : (w : Width) → (numbers : List ℕ) (low high bound : ℕ) → 64 ≤ length numbers → low ≤ high → low < 2 ^ bits w →
    bound ≡ min high (2 ^ bits w - 1) → ((k : ℕ) → get_or numbers k 0 < 2 ^ bits w)
    → AreMarked numbers low high
    (mask_l (map (top (hbits w)) (zip2 (λ a b. cond (leb a b) (2 ^ bits w - 1) 0) (zip2 (above_by (2 ^ bits w)) (take 64 numbers) (replicate 64 low))
    (replicate 64 (bound - low)))) % 2 ^ 64)
marked_lanes w numbers low high bound long order fits cut small =
    bounded numbers low high (2 ^ bits w - 1) bound _ cut (λ k. omega (arith, small k))
    (compared w numbers low bound long (omega (arith, order, fits, cut)) (omega (arith, fits, cut)) small)

-- the mask is 0 for bounds above all numbers, and for empty bounds
pub none_above : (numbers : List ℕ) (low high m : ℕ) → ((k : ℕ) → get_or numbers k 0 < m) → m ≤ low → AreMarked numbers low high 0
none_above numbers low high m small over k lt =
    let x = get_or numbers k 0 in
    let under : (nat_le low x && nat_le x high) ≡ false = (let le : x < m = small k in grind arith) in
    ap (λ n. n == 1) (bit_at-zero k) ∙ sym under

pub none_between : (numbers : List ℕ) (low high : ℕ) → high < low → AreMarked numbers low high 0
none_between numbers low high under k lt =
    let x = get_or numbers k 0 in
    let empty : (nat_le low x && nat_le x high) ≡ false = grind arith in
    ap (λ n. n == 1) (bit_at-zero k) ∙ sym empty

-- the bits of a word of presence
bit_at-number_of : (bits : List Bool) (k : ℕ) → bit_at (number_of bits) k ≡ cond (get_or bits k false) 1 0
unfolding joined
bit_at-number_of [] k = bit_at-zero k
bit_at-number_of (true ∷ bits) zero = bit_at_lowest (number_of (true ∷ bits)) ∙ omega arith
bit_at-number_of (false ∷ bits) zero = bit_at_lowest (number_of (false ∷ bits)) ∙ omega arith
bit_at-number_of (true ∷ bits) (suc k) =
    let half : (number_of bits * 2 ^ 1 + 1) / 2 ≡ number_of bits = omega arith in
    bit_at-suc (number_of (true ∷ bits)) k ∙ ap (λ n. bit_at n k) half ∙ bit_at-number_of bits k
bit_at-number_of (false ∷ bits) (suc k) =
    let half : (number_of bits * 2 ^ 1 + 0) / 2 ≡ number_of bits = omega arith in
    bit_at-suc (number_of (false ∷ bits)) k ∙ ap (λ n. bit_at n k) half ∙ bit_at-number_of bits k

present-at : (values : List (Option ℕ)) (present : List Bool) (from word k : ℕ) → map is_some values ≡ present →
    word ≡ number_of (take 64 (drop from present)) → k < 64 → (bit_at word k == 1) ≡ is_some (get_or values (from + k) None)
present-at values present from word k there is inside =
    let part = take 64 (drop from present) in
    ap (λ n. bit_at n k == 1) is ∙ ap (λ n. n == 1) (bit_at-number_of part k) ∙ marked_one (get_or part k false)
    ∙ get_or-take 64 (drop from present) k false inside ∙ get_or-drop from present k false ∙ ap (λ b. get_or b (from + k) false) (sym there)
    ∙ presence-at values (from + k)

both_one : (a b : ℕ) → a < 2 → b < 2 → (min a b == 1) ≡ ((b == 1) && (a == 1))
both_one zero zero low high = refl
both_one zero (suc zero) low high = refl
both_one (suc zero) zero low high = refl
both_one (suc zero) (suc zero) low high = refl
both_one (suc (suc a)) b low high = absurd (omega (arith, low))
both_one a (suc (suc b)) low high = absurd (omega (arith, high))

-- a present value is within bounds if its element is within them less the least value
one_place : (v : Option ℕ) (least low high lane : ℕ) (there marked : Bool) → least ≤ high → IfSome v (λ x. (least ≤ x) × (least + lane ≡ x)) →
    there ≡ is_some v → marked ≡ (nat_le (low - least) lane && nat_le lane (high - least)) → (there && marked) ≡ is_within low high v
one_place None least low high lane there marked order h there_is marked_is = rw there_is refl
one_place (Some x) least low high lane there marked order h there_is marked_is =
    let same : (nat_le (low - least) lane && nat_le lane (high - least)) ≡ (nat_le low x && nat_le x high) = (let sum = h.1 in grind arith) in
    rw (there_is, marked_is) same

-- no value is below the least
pub none_below : (v : Option ℕ) (least low high lane : ℕ) → high < least → IfSome v (λ x. (least ≤ x) × (least + lane ≡ x)) → false ≡ is_within low high v
none_below None least low high lane under h = refl
none_below (Some x) least low high lane under h = let over : least ≤ x = h.0 in grind arith

pub marked_values : (values : List (Option ℕ)) (range : Option (ℕ × ℕ)) (present : List Bool) (lanes : List ℕ)
    (least from low high found word : ℕ) → IsColumn values range present lanes → least_of range ≡ least → least ≤ high → from % 64 ≡ 0
    → AreMarked (drop from lanes) (low - least) (high - least) found → word ≡ number_of (take 64 (drop (64 * (from / 64)) present))
    → (k : ℕ) → k < 64 → (bit_at (bit_and found word) k == 1) ≡ is_within low high (get_or values (from + k) None)
marked_values values range present lanes least from low high found word h least_is order aligned found_is word_is k lt =
    let start : 64 * (from / 64) ≡ from = omega (arith, aligned) in
    let v = get_or values (from + k) None in
    let lane = get_or lanes (from + k) 0 in
    let bit : (bit_at (bit_and found word) k == 1) ≡ ((bit_at word k == 1) && (bit_at found k == 1)) =
    ap (λ n. n == 1) (bit_at_and found word k) ∙ both_one (bit_at found k) (bit_at word k) (bit_at-lt found k) (bit_at-lt word k) in
    bit ∙ one_place v least low high lane (bit_at word k == 1) (bit_at found k == 1) order
    (subst (λ n. IfSome v (λ x. (n ≤ x) × (n + lane ≡ x))) least_is (lane_there values range present lanes h (from + k)))
    (present-at values present from word k (sym h.present_is) (word_is ∙ ap (λ n. number_of (take 64 (drop n present))) start) lt)
    (found_is k lt ∙ ap (λ x. nat_le (low - least) x && nat_le x (high - least)) (get_or-drop from lanes k 0))
