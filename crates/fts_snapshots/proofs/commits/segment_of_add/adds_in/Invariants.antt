-- The invariant of the loop of `commits::segment_of_add::adds_in`.
use Rattle.std.proofs.Common.{◌≡◌, ◌≤◌, length, take}
use Rattle.fts_model.specs.Operations.{added}
use Rattle.fts_snapshots.proofs.commits.segment_of_add.adds_in.Given as goal

abbrev pub invariant-loop-op : goal.invariant-loop-op
invariant-loop-op l = record {
  counted : l.adds ≡ length (added (take l.op-index l.ops));
  few : l.adds ≤ l.op-index;
}
