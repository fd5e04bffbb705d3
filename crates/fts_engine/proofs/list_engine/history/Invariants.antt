use Rattle.std.proofs.Common.{◌≡◌, ◌++◌, take}
use Rattle.fts_model.specs.Operations.{adds}
use Rattle.fts_engine.proofs.list_engine.history.Given as goal

abbrev pub invariant-loop-document : goal.invariant-loop-document
invariant-loop-document l = l.all.items ≡ adds (take l.document-index l.documents)

abbrev pub invariant-loop-op : goal.invariant-loop-op
invariant-loop-op l = l.all.items ≡ adds l.documents ++ take l.op-index l.ops
