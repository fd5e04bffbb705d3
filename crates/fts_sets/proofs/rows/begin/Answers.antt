-- Each bit is set, and those of the documents before the first are cleared.
use Rattle.std.proofs.Common.{◌==◌, ◌&&◌, ◌∙◌, ◌+◌, ◌-◌, ◌*◌, ◌^◌, ℕ, nat_le, inl, inr, ap, arith}
use Rattle.std.specs.Int.{bit_at}
use Rattle.std.proofs.lemmas.Bool.{cases_lt}
use Rattle.std.proofs.lemmas.List.{get_or-set_other, length-replicate, length-set}
use Rattle.std.proofs.lemmas.Grind.{get_or-set_at}
use Rattle.std.proofs.lemmas.Nat.Bits.{bit_at_ones}
use Rattle.fts_sets.proofs.rows.begin.Goals as goal

pub loop-place-init : goal.loop-place-init
loop-place-init c = record { long = length-replicate {A = ℕ} 16 0; ones = λ k low. absurd (omega (arith, low)) }

pub loop-place-preserved : goal.loop-place-preserved
loop-place-preserved c =
    let l = c.loop-place in
    let word = 2 ^ 64 - 1 in
    record {
      long = length-set l.row l.place word ∙ l.invariant.long;
      ones = λ k low. elim (cases_lt k l.place) [
        | inl below ↦ get_or-set_other l.row l.place k word 0 (λ e. absurd (omega (arith, e, below))) ∙ l.invariant.ones k below
        | inr up ↦ get_or-set_at l.row l.place k word 0 (omega (arith, low, up)) (omega (arith, l.invariant.long))
      ];
    }

pub returns : goal.returns
returns c k low j inside =
    let l = c.loop-place in
    let from = nat_le c.args.first (64 * (c.args.index + k) + j) in
    c.keep_from.ensures.told k j (omega (arith, l.invariant.long, low, c.requires.few)) inside
    ∙ ap (λ w. (bit_at w j == 1) && from) (l.invariant.ones k (omega (arith, low))) ∙ ap (λ n. (n == 1) && from) (bit_at_ones 64 j inside)
