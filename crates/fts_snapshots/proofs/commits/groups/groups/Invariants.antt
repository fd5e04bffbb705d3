-- The invariant of the loop of `commits::groups::groups`.
use Rattle.std.proofs.Common.{◌≡◌, length, take}
use Rattle.fts_model.specs.Operations.{added}
use Rattle.fts_snapshots.specs.Cuts.{groups_of}
use Rattle.fts_snapshots.specs.Groups.{AreOf, documents_in}
use Rattle.fts_snapshots.proofs.commits.groups.groups.Given as goal

abbrev pub invariant-loop-op : goal.invariant-loop-op
invariant-loop-op l = record {
  schema : AreOf l.schema l.groups.items;
  dealt : documents_in l.groups.items ≡ groups_of l.cut (added (take l.op-index l.ops));
  counted : l.count ≡ length (added (take l.op-index l.ops));
}
