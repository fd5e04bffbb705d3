use Rattle.std.proofs.Common.{◌≡◌, ◌++◌, take}
use Rattle.fts_model.specs.Operations.{added}
use Rattle.fts_engine.proofs.list_engine.append.Given as goal

abbrev pub invariant-loop-op : goal.invariant-loop-op
invariant-loop-op l = l.documents.items ≡ l.fn.documents.items ++ added (take l.op-index l.ops)
