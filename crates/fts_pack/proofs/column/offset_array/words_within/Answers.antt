use Rattle.std.proofs.Common.{◌^◌, arith}
use Rattle.std.proofs.Math.Facts.{Fits-lt-pow}
use Rattle.std.specs.Int.{w32}
use Rattle.fts_pack.proofs.LanesLemmas.{marked_lanes, none_above}
use Rattle.fts_pack.proofs.column.offset_array.words_within.Goals as goal

pub returns-then-low-gt-WORD_MAX : goal.returns-then-low-gt-WORD_MAX
returns-then-low-gt-WORD_MAX c = none_above c.args.numbers.now c.args.low c.args.high (2 ^ 32) (λ k. Fits-lt-pow (c.type_inv.numbers k))
    (omega (arith, c.if-low-gt-WORD_MAX.true))

pub returns : goal.returns
returns c = marked_lanes w32 c.args.numbers.now c.args.low c.args.high c.min.result c.requires.0 c.requires.1 (omega (arith, c.if-low-gt-WORD_MAX.false))
    c.min.ensures (λ k. Fits-lt-pow (c.type_inv.numbers k))
