use Rattle.std.proofs.Common.{◌<◌, List, ◌++◌, ◌∷◌, [], not, filter, length, take, sym, ap, ◌∙◌, arith}
use Rattle.std.proofs.lemmas.List.{take_more}
use Rattle.fts_model.specs.declared.operation.Op.{Op}
use Rattle.fts_model.specs.declared.operation.Stamped.{Stamped}
use Rattle.fts_model.specs.Documents.{DocumentValue}
use Rattle.fts_model.specs.Operations.{alive, strikes}
use Rattle.fts_model.proofs.OperationsAlive.{alive-one}
use Rattle.fts_scan.proofs.operations.alive.Goals as goal

pub loop-op-preserved : goal.loop-op-preserved
loop-op-preserved c =
    let schema = c.args.schema.now in
    let ops = c.args.ops.now in
    let i = c.loop-op.op-index in
    let op = c.op-item.result in
    let within : i < length ops = omega arith in
    let more = take_more ops i op within in
    let behind = λ (x : Stamped Op). alive schema (take i ops ++ x ∷ []) in
    let left = λ (documents : List (Stamped DocumentValue)). filter (λ (d : Stamped DocumentValue). not (strikes schema op.value d.value)) documents
    ++ alive schema (op ∷ []) in
    c.in_ok-documents.ensures
    ∙ ap left c.loop-op.invariant
    ∙ sym (alive-one schema (take i ops) op)
    ∙ ap behind c.op-item.is
    ∙ ap (alive schema) (sym more)
