use Rattle.std.proofs.Common.{map, slice_get, take}
use Rattle.fts_pack.specs.column.Counts.{AreCounted}
use Rattle.fts_pack.proofs.column.value_counts.count_all.Given as goal

abbrev pub invariant-loop-doc : goal.invariant-loop-doc
invariant-loop-doc g l = AreCounted (slice_get (map g.L.OffsetInt.value l.lanes)) (take l.doc-index l.docs) l.fn.counts l.counts
