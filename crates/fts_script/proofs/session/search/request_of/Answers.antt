use Rattle.std.proofs.Common.{◌≡◌, ◌∙◌, true, sym}
use Rattle.fts_model.specs.declared.query.Request.{Request}
use Rattle.fts_model.specs.Queries.{request_fits}
use Rattle.fts_engine.proofs.FitLemmas.{if_ok, request_of_fits}
use Rattle.fts_script.proofs.session.search.request_of.Goals as goal

pub returns-clause-fits : goal.returns-clause-fits
returns-clause-fits c =
    if_ok (λ (request : Request). request_fits c.args.schema.now request ≡ true) c.new.result (λ request e. request_of_fits c.args.schema.now _ _ request
    (sym c.new.ensures ∙ e))
