-- The invariant of the loop of `commits::segment_of_add::new_segments`.
use Rattle.std.proofs.Common.{◌≡◌, ◌≤◌, length, take}
use Rattle.fts_model.specs.Operations.{added}
use Rattle.fts_snapshots.specs.Cuts.{groups_of}
use Rattle.fts_snapshots.proofs.commits.segment_of_add.new_segments.Given as goal

abbrev pub invariant-loop-j : goal.invariant-loop-j
invariant-loop-j l = record {
  counted : l.segments ≡ length (groups_of l.cut (take l.j (added l.ops)));
  few : l.segments ≤ l.j;
}
