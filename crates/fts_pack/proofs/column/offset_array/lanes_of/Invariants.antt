use Rattle.std.proofs.Common.{◌≡◌, map, take}
use Rattle.fts_pack.specs.column.Column.{offsets}
use Rattle.fts_pack.proofs.column.offset_array.lanes_of.Given as goal

abbrev pub invariant-loop-value : goal.invariant-loop-value
invariant-loop-value g l = map g.L.OffsetInt.value l.lanes.items ≡ take l.value-index (offsets l.least l.values)
