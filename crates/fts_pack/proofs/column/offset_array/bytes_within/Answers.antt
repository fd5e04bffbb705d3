use Rattle.std.proofs.Common.{◌^◌, arith}
use Rattle.std.proofs.Math.Facts.{Fits-lt-pow}
use Rattle.std.specs.Int.{w8}
use Rattle.fts_pack.proofs.LanesLemmas.{marked_lanes, none_above}
use Rattle.fts_pack.proofs.column.offset_array.bytes_within.Goals as goal

pub returns-then-low-gt-BYTE_MAX : goal.returns-then-low-gt-BYTE_MAX
returns-then-low-gt-BYTE_MAX c = none_above c.args.numbers.now c.args.low c.args.high (2 ^ 8) (λ k. Fits-lt-pow (c.type_inv.numbers k))
    (omega (arith, c.if-low-gt-BYTE_MAX.true))

pub returns : goal.returns
returns c = marked_lanes w8 c.args.numbers.now c.args.low c.args.high c.min.result c.requires.0 c.requires.1 (omega (arith, c.if-low-gt-BYTE_MAX.false))
    c.min.ensures (λ k. Fits-lt-pow (c.type_inv.numbers k))
