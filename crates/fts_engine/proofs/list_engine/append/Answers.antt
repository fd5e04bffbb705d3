use Rattle.std.proofs.Common.{◌++◌, ◌∷◌, [], take, sym, ap, ◌∙◌, append_assoc}
use Rattle.std.proofs.lemmas.List.{take_more}
use Rattle.fts_model.specs.Operations.{added, added_by}
use Rattle.fts_engine.proofs.list_engine.append.Goals as goal
use Rattle.fts_model.proofs.OperationsByStamps.{added-push}

pub loop-op-preserved : goal.loop-op-preserved
loop-op-preserved c =
    let op = c.op-item.result in
    let before = added (take c.loop-op.op-index c.args.ops.now) in
    c.in-Ok.ensures.ok
    ∙ ap (λ ds. ds ++ added_by op.stamp op.value) c.loop-op.invariant
    ∙ append_assoc c.args.documents.now.items before (added_by op.stamp op.value)
    ∙ ap (λ ds. c.args.documents.now.items ++ ds)
    (sym (added-push (take c.loop-op.op-index c.args.ops.now) op) ∙ ap added (ap (λ o. take c.loop-op.op-index c.args.ops.now ++ o ∷ []) c.op-item.is
    ∙ sym (take_more c.args.ops.now c.loop-op.op-index op c.loop-op-test.true)))
