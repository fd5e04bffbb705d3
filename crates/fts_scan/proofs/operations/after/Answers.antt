use Rattle.std.proofs.Common.{sym, ◌∙◌, ◌++◌, ◌∷◌, [], ap}
use Rattle.fts_model.specs.Documents.{DocumentValue}
use Rattle.fts_model.proofs.OperationsAlive.{alive-add, alive-delete_all}
use Rattle.fts_scan.proofs.operations.after.Goals as goal

pub returns-in_ok-push-in-Add : goal.returns-in_ok-push-in-Add
returns-in_ok-push-in-Add c =
    let left = alive-add c.args.schema.now c.args.op.now c.in-Add.document c.args.documents.items c.in-Add.is in
    let behind = λ (value : DocumentValue). c.args.documents.items ++ record { stamp = c.args.op.now.stamp; value = value } ∷ [] in
    c.in_ok-push-in-Add.ensures.items ∙ ap behind c.in_ok-value-in-Add.ensures.cases ∙ sym left

pub returns-in-DeleteAll : goal.returns-in-DeleteAll
returns-in-DeleteAll c = c.new.ensures.items ∙ sym (alive-delete_all c.args.schema.now c.args.op.now c.args.documents.items c.in-DeleteAll.is)
