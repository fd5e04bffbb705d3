use Rattle.std.proofs.Common.{◌≡◌, true, IfOk, subst}
use Rattle.serde_json.specs.View.{view}
use Rattle.fts_base.specs.Results.{Gives}
use Rattle.fts_model.specs.Documents.{DocumentValue, document_of, fits}
use Rattle.fts_engine.proofs.FitLemmas.{if_given, document_fits}
use Rattle.fts_script.proofs.session.commands.document_in.Goals as goal

pub returns-clause-document : goal.returns-clause-document
returns-clause-document g c = subst (λ schema. Gives (λ document. document) c.from_json.result (document_of schema (view c.args.json.now))) c.schema.ensures
    c.from_json.ensures.document

pub returns-clause-fits : goal.returns-clause-fits
returns-clause-fits g c =
    let d = view c.args.json.now in
    subst (λ schema. IfOk c.from_json.result (λ (document : DocumentValue). fits schema document ≡ true)) c.schema.ensures
    (if_given (λ (document : DocumentValue). fits c.schema.result.now document ≡ true) c.from_json.result (document_of c.schema.result.now d)
    c.from_json.ensures.document
    (document_fits c.schema.result.now d))
