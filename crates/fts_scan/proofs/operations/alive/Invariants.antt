use Rattle.std.proofs.Common.{◌≡◌, take}
use Rattle.fts_model.specs.Operations.{alive}
use Rattle.fts_scan.proofs.operations.alive.Given as goal

abbrev pub invariant-loop-op : goal.invariant-loop-op
invariant-loop-op l = l.documents.items ≡ alive l.schema (take l.op-index l.ops)
