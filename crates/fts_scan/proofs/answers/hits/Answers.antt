use Rattle.std.proofs.Common.{◌<◌, ◌++◌, ◌∷◌, [], length, take, sym, ap, ◌∙◌, arith}
use Rattle.std.proofs.lemmas.List.{take_more}
use Rattle.fts_model.specs.declared.operation.Stamped.{Stamped}
use Rattle.fts_model.specs.Documents.{DocumentValue}
use Rattle.fts_model.specs.QueryValues.{query_value}
use Rattle.fts_model.specs.Queries.{hits}
use Rattle.fts_scan.proofs.AnswersSteps.{hits-more}
use Rattle.fts_scan.proofs.answers.hits.Goals as goal

pub loop-document-preserved : goal.loop-document-preserved
loop-document-preserved c =
    let documents = c.args.documents.now in
    let test = hits c.args.schema.now (query_value c.args.query.now) in
    let i = c.loop-document.document-index in
    let document = c.document-item.result in
    let within : i < length documents = omega arith in
    let behind = λ (x : Stamped DocumentValue). test (take i documents ++ x ∷ []) in
    c.in_ok-push_if_hit.ensures
    ∙ ap (λ ds. ds ++ test (document ∷ [])) c.loop-document.invariant
    ∙ sym (hits-more c.args.schema.now (query_value c.args.query.now) (take i documents) document)
    ∙ ap behind c.document-item.is
    ∙ ap test (sym (take_more documents i document within))
