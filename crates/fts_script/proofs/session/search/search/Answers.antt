use Rattle.std.proofs.Common.{◌≡◌, ◌∙◌, inr, refl, sym, ap, subst, Err, Ok, Some, Result, Option, Vec, Global, option_map, List, ℕ}
use Rattle.std.specs.Option.{option_copied}
use Rattle.std.proofs.lemmas.Result.{err_from_is_err_and}
use Rattle.fts_base.specs.declared.refusal.Refusal.{Refusal}
use Rattle.fts_model.specs.declared.text.Text.{Text}
use Rattle.fts_model.specs.Queries.{request_of}
use Rattle.fts_model.specs.QueryValues.{QueryValue, query_value}
use Rattle.fts_engine.specs.Indexes.{Index, indexes}
use Rattle.fts_query.specs.Answers.{answer}
use Rattle.fts_script.specs.command.Commands.{Search}
use Rattle.fts_script.specs.command.CommandViews.{search_value}
use Rattle.fts_script.specs.session.Replies.{Outcome}
use Rattle.fts_script.specs.session.Searches.{answer_cut, if_fields}
use Rattle.fts_script.specs.session.Sessions.{Does}
use Rattle.fts_script.specs.declared.session.reply.Reply.{Reply}
use Rattle.fts_script.proofs.session.search.search.Goals as goal

refused : (wanted : Result (Outcome Index) Refusal) (index : Option Index) (result : Result Reply Refusal) (refusal : Refusal) → result ≡ Err refusal →
    wanted ≡ Err refusal → Does wanted index index result
refused wanted index result refusal is wants = rw is (refl, inr wants)

-- a request that is refused, once the query was read, is what a search comes to
refused_request : (asked : Search) (names : Option (List (List ℕ))) (s : Index) (query : QueryValue) (refusal : Refusal) →
    answer (indexes.schema s) asked.query ≡ Ok query →
    if_fields (indexes.schema s) names (request_of (indexes.schema s) asked.groups asked.top) ≡ Err refusal → answer_cut indexes asked names s ≡ Err refusal
refused_request asked names s query refusal reads refuses = rw (reads, refuses) refl

pub returns-in_err-request-clause-does : goal.returns-in_err-request-clause-does
returns-in_err-request-clause-does g c =
    let index = g.E.Engine.index c.args.engine.now in
    let asked = search_value c.args.asked in
    let names = option_map (λ (listed : Vec Text Global). listed.items) c.args.names in
    let refusal = c.in_err-request.field-0.0 in
    let reads : answer (indexes.schema index) asked.query ≡ Ok (query_value c.in_ok-query.query) =
    subst (λ schema. answer schema asked.query ≡ Ok (query_value c.in_ok-query.query)) c.schema.ensures c.in_ok-query.ensures.query in
    let known : option_copied c.as_deref.result ≡ names = c.as_deref.ensures.value in
    let refuses : if_fields (indexes.schema index) names (request_of (indexes.schema index) asked.groups asked.top) ≡ Err refusal =
    subst (λ listed. if_fields (indexes.schema index) listed (request_of (indexes.schema index) asked.groups asked.top) ≡ Err refusal) known
    (subst (λ schema. if_fields schema (option_copied c.as_deref.result) (request_of schema asked.groups asked.top) ≡ Err refusal) c.schema-2.ensures
    (sym c.cut_request_of.ensures.request ∙ c.in_err-request.was)) in
    let p = err_from_is_err_and c.from_residual-in_err-request.result c.from_residual-in_err-request.ensures.1 in
    let is : c.from_residual-in_err-request.result ≡ Err refusal = p.1 ∙ ap Err p.2 in
    refused (answer_cut indexes asked names index) (Some index) c.from_residual-in_err-request.result refusal is
    (refused_request asked names index (query_value c.in_ok-query.query) refusal reads refuses)
