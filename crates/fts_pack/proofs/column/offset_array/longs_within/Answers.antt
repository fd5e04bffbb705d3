use Rattle.std.proofs.Common.{arith}
use Rattle.std.proofs.Math.Facts.{Fits-lt-pow}
use Rattle.std.specs.Int.{w64}
use Rattle.fts_pack.proofs.LanesLemmas.{marked_lanes}
use Rattle.fts_pack.proofs.column.offset_array.longs_within.Goals as goal

pub returns : goal.returns
returns c = marked_lanes w64 c.args.numbers.now c.args.low c.args.high c.args.high c.requires.0 c.requires.1 (omega (arith, c.requires.1, c.ranges.high.fits))
    (omega (arith, c.ranges.high.fits)) (λ k. Fits-lt-pow (c.type_inv.numbers k))
