use Rattle.std.proofs.Common.{◌≤◌, drop, length, map, slice_get}
use Rattle.fts_pack.specs.column.Interval.{NoneWithin}
use Rattle.fts_pack.proofs.column.last_within.last_of_all.Given as goal

abbrev pub invariant-loop-place : goal.invariant-loop-place
invariant-loop-place g l =
    (l.place ≤ length l.docs) × NoneWithin (slice_get (map g.L.OffsetInt.value l.lanes)) l.low l.high (drop l.place l.docs)

abbrev pub decreases-loop-place : goal.decreases-loop-place
decreases-loop-place g l = l.place
