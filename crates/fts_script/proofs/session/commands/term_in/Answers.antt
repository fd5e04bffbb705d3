use Rattle.std.proofs.Common.{◌≡◌, true, IfOk, subst}
use Rattle.serde_json.specs.View.{view}
use Rattle.fts_model.specs.declared.operation.Term.{Term}
use Rattle.fts_base.specs.Results.{Gives}
use Rattle.fts_model.specs.Operations.{term_fits, term_of}
use Rattle.fts_engine.proofs.FitLemmas.{if_given, term_of_fits}
use Rattle.fts_script.proofs.session.commands.term_in.Goals as goal

pub returns-clause-term : goal.returns-clause-term
returns-clause-term g c = subst (λ schema. Gives (λ term. term) c.new.result (term_of schema c.args.name.now (view c.args.json.now))) c.schema.ensures
    c.new.ensures.term

pub returns-clause-fits : goal.returns-clause-fits
returns-clause-fits g c =
    let d = view c.args.json.now in
    let name = c.args.name.now in
    subst (λ schema. IfOk c.new.result (λ (term : Term). term_fits schema term ≡ true)) c.schema.ensures
    (if_given (λ (term : Term). term_fits c.schema.result.now term ≡ true) c.new.result (term_of c.schema.result.now name d) c.new.ensures.term
    (term_of_fits c.schema.result.now name d))
