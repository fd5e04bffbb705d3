use Rattle.std.proofs.Common.{◌^◌, ◌<◌, IfSome, take}
use Rattle.fts_pack.specs.column.Column.{IsRangeOf}
use Rattle.fts_pack.proofs.column.column.range_of.Given as goal

abbrev pub invariant-loop-value : goal.invariant-loop-value
invariant-loop-value l =
    IsRangeOf (take l.value-index l.values) l.range × IfSome l.range (λ r. r.1 < 2 ^ 64)
