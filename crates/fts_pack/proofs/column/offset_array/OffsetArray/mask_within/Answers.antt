use Rattle.std.proofs.Common.{drop}
use Rattle.fts_pack.specs.column.OffsetArray.{in_lanes}
use Rattle.fts_pack.proofs.LanesLemmas.{none_between}
use Rattle.fts_pack.proofs.column.offset_array.OffsetArray.mask_within.Goals as goal

pub returns-then-high-low : goal.returns-then-high-low
returns-then-high-low c = none_between (drop c.args.from (in_lanes c.args.self.now)) c.args.low c.args.high c.if-high-low.true
