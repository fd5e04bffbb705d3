-- 16 numbers are compared at once; the first that reaches the target is found.
use Rattle.std.proofs.Common.{◌≡◌, ℕ, ◌+◌, ◌-◌, ◌^◌, ◌%◌, ◌<◌, ◌≤◌, ◌==◌, cond, not, List, length, get_or, map, sym, ap, subst, ◌∙◌, inl, inr, arith}
use Rattle.std.specs.Int.{w32, w64}
use Rattle.std.specs.List.{prefix_len}
use Rattle.std.proofs.lemmas.Bool.{cases_lt, leb-false, leb-true, ne_eqb}
use Rattle.std.proofs.lemmas.List.{length-map}
use Rattle.std.proofs.lemmas.Nat.Bits.{bit_at_above, bit_at-trailing_zeros}
use Rattle.std.proofs.lemmas.Simd.{first_set_mask_l, length-chunk, mask_l-lt, mask_l-mod, none_from_empty_mask, run_in_chunk_fails, run_in_chunk_stops}
use Rattle.std.proofs.lemmas.Simd.{tops_compared, zip2_splat_left}
use lib.Count.{count_trailing_zeros}
use lib.Dec.{leb}
use lib.Lanes.{chunk, mask_l, top, zip2}
use lib.ListN.{replicate}
use Rattle.fts_postings.specs.Remaining.{IsPlaceOf}

pub reached-are : (numbers : List ℕ) (target : ℕ) → length numbers ≡ 16 →
    mask_l (map (top 31) (zip2 (λ a b. cond (leb a b) (2 ^ 32 - 1) 0) (replicate 16 target) numbers)) % 2 ^ 64 ≡ mask_l (map (leb target) numbers)
reached-are numbers target size =
    ap (λ ms. mask_l ms % 2 ^ 64) (tops_compared w32 leb (replicate 16 target) numbers ∙ zip2_splat_left leb target 16 numbers size)
    ∙ mask_l-mod (map (leb target) numbers) 64 (omega (arith, length-map numbers (leb target), size))

module _ (numbers : List ℕ) (from to target m : ℕ) (room : from + 16 ≤ to) (within : to ≤ length numbers)
    (is : m ≡ mask_l (map (leb target) (chunk from 16 numbers))) where
  abbrev part : List ℕ
  part = chunk from 16 numbers

  size : length part ≡ 16
  size = length-chunk from 16 numbers (omega (arith, room, within))

  -- the lowest bit is the place of the first that is reached
  pub reached_place : 0 < m → IsPlaceOf (λ k. get_or numbers k 0) from to target (from + count_trailing_zeros 64 m)
  reached_place some =
      let r = count_trailing_zeros 64 m in
      let few : m < 2 ^ 16 =
      subst (λ n. n < 2 ^ 16) (sym is) (subst (λ n. mask_l (map (leb target) part) < 2 ^ n) (length-map part (leb target) ∙ size)
      (mask_l-lt (map (leb target) part))) in
      let lowest = bit_at-trailing_zeros w64 m some (omega (arith, few)) in
      let near : r < 16 = elim (cases_lt r 16) [
        | inl low ↦ low
        | inr past ↦ absurd (let none = bit_at_above m 16 r few past in omega (arith, none, lowest.1))
      ] in
      let counted : r ≡ prefix_len (λ x. not (leb target x)) part =
      sym (ap (λ b. cond b 16 r) (ne_eqb m 0 (λ e. absurd (omega (arith, e, some)))))
      ∙ ap (λ n. cond (n == 0) 16 (count_trailing_zeros 64 n)) is
      ∙ first_set_mask_l (leb target) part 16 size (omega arith) in
      let long : from + 16 ≤ length numbers = omega (arith, room, within) in
      record {
        low_within = omega arith;
        high_within = omega (arith, near, room);
        before = λ behind. leb-false target (get_or numbers (from + r - 1) 0) (run_in_chunk_fails (leb target) numbers from 16 r 0 long counted (from + r - 1)
            (omega (arith, behind)) (omega (arith, behind)));
        here = λ _. leb-true target (get_or numbers (from + r) 0) (run_in_chunk_stops (leb target) numbers from 16 r 0 long counted near);
      }

  -- if none is reached, the place is after all of them
  pub none_reached : m ≡ 0 → (place : ℕ) → IsPlaceOf (λ k. get_or numbers k 0) (from + 16) to target place →
      IsPlaceOf (λ k. get_or numbers k 0) from to target place
  none_reached none place h = record {
    low_within = omega (arith, h.low_within);
    high_within = h.high_within;
    before = λ behind. elim (cases_lt (from + 16) place) [
      | inl over ↦ h.before over
      | inr at ↦ leb-false target (get_or numbers (place - 1) 0) (none_from_empty_mask (leb target) numbers from 16 0 (omega (arith, room, within))
          (sym is ∙ none) (place - 1) (omega (arith, h.low_within)) (omega (arith, at, h.low_within)))
    ];
    here = h.here;
  }
