use Rattle.std.proofs.Common.{◌≤◌, length}
use Rattle.fts_pack.specs.ListRange.{lists_in_range}
use Rattle.fts_collect.proofs.walk.place_from_last.Given as goal

abbrev pub invariant-loop-place : goal.invariant-loop-place
invariant-loop-place l = l.place ≤ length (lists_in_range l.lists)

abbrev pub decreases-loop-place : goal.decreases-loop-place
decreases-loop-place l = l.place
