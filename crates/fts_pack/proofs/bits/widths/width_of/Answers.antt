use Rattle.std.proofs.Common.{◌<◌, arith, length}
use Rattle.std.proofs.lemmas.List.{take_more, take_all}
use Rattle.fts_pack.proofs.PackingLemmas.{HasBitsOf-push}
use Rattle.fts_pack.proofs.bits.widths.width_of.Goals as goal

pub loop-number-preserved : goal.loop-number-preserved
loop-number-preserved c =
    let inside : c.loop-number.number-index < length c.args.numbers.now = omega arith in
    rw (take_more c.args.numbers.now c.loop-number.number-index 0 inside) (HasBitsOf-push _ _ _ c.loop-number.invariant)

pub returns-clause-width : goal.returns-clause-width
returns-clause-width c =
    let all = take_all c.loop-number.number-index c.args.numbers.now (omega arith) in
    let bits = rw all at c.loop-number.invariant in
    record {
      holds = bits.holds _ (rw c.from.ensures at c.bit_length.ensures.holds);
      least = λ other each. c.bit_length.ensures.least other (rw c.from.ensures (bits.least other each));
    }

pub returns-clause-within : goal.returns-clause-within
returns-clause-within c = c.bit_length.ensures.least 32 (rw c.from.ensures (omega arith))
