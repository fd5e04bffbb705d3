use Rattle.std.proofs.Common.{◌≤◌, drop, length, map}
use Rattle.fts_pack.specs.column.OffsetArray.{number_at}
use Rattle.fts_pack.specs.column.Interval.{NoneWithin}
use Rattle.fts_pack.proofs.column.last_within.last_present.Given as goal

abbrev pub invariant-loop-place : goal.invariant-loop-place
invariant-loop-place g l =
    (l.place ≤ length l.docs) × NoneWithin (number_at l.present (map g.L.OffsetInt.value l.lanes)) l.low l.high (drop l.place l.docs)

abbrev pub decreases-loop-place : goal.decreases-loop-place
decreases-loop-place g l = l.place
