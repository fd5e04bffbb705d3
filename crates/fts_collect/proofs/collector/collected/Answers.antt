use Rattle.std.proofs.Common.{◌≢◌, [], ◌∙◌, ◌-◌, ◌^◌, ℕ, List, None, sym, ap, subst, min, arith}
use Rattle.fts_model.specs.declared.operation.Stamped.{Stamped}
use Rattle.fts_model.specs.Documents.{DocumentValue}
use Rattle.fts_model.specs.QueryValues.{query_value}
use Rattle.fts_model.specs.Queries.{matches}
use Rattle.fts_model.specs.Answers.{answer_of}
use Rattle.fts_parts.specs.Collected.{AreHits, hits_at}
use Rattle.fts_parts.proofs.FitLemmas.{has_values}
use Rattle.fts_collect.proofs.LiveLemmas.{live_hits-at, hits_are}
use Rattle.fts_collect.proofs.OpeningsLemmas.{at_most, blocks-few, least-few, some_hits, where_some}
use Rattle.fts_collect.proofs.collector.collected.Goals as goal

pub part_of-requires-clause-documents : goal.part_of-requires-clause-documents
part_of-requires-clause-documents c = has_values c.args.segment.now c.docs-documents.ensures.documents c.docs-documents.ensures.fit

pub part_of-requires-clause-hits : goal.part_of-requires-clause-hits
part_of-requires-clause-hits c =
    let segment = c.args.segment.now in
    let p = λ (d : Stamped DocumentValue). matches segment.schema d.value (query_value c.args.query.now) in
    let P : List ℕ → Type 0 = AreHits segment in
    subst P (sym c.requires.hits) (hits_are p segment c.args.live.now (omega arith))

pub returns-clause-part : goal.returns-clause-part
returns-clause-part c =
    let segment = c.args.segment.now in
    let request = c.args.request.now in
    let p = λ (d : Stamped DocumentValue). matches segment.schema d.value (query_value c.args.query.now) in
    c.in_ok-part.ensures.answer
    ∙ ap (answer_of request) (ap (hits_at segment) c.requires.hits ∙ sym (live_hits-at p segment.documents c.args.live.now c.requires.bits))

pub returns-clause-openings : goal.returns-clause-openings
returns-clause-openings c = record {
  from = omega (
    arith,
    c.requires.opens.least,
    c.in_ok-part.ensures.least,
    least-few c.args.segment.now (query_value c.args.query.now)
        (omega arith),
  );
  up_to = at_most _ _ _ c.in_ok-part.ensures.most c.requires.opens.most;
  one_term = λ t is.
      let whole = c.requires.opens.one_term t is in
      c.in_ok-part.ensures.whole whole.0 ∙ ap (min (2 ^ 64 - 1)) whole.1 ∙ blocks-few c.args.segment.now t (omega arith);
  opened = λ terms has. where_some _ _ _ (λ some.
      let ne : c.args.cursor.remaining ≢ [] = some_hits c.args.segment.now c.args.request.now _ _ c.in_ok-part.ensures.answer some in
      omega (arith, c.requires.opens.opened terms has ne, c.in_ok-part.ensures.least, c.musts_of-musts.ensures terms has));
  musts = λ terms has. at_most _ _ _ c.in_ok-part.ensures.most (c.requires.opens.musts terms has None);
}

pub returns-clause-walked : goal.returns-clause-walked
returns-clause-walked c = record {
  cursor = c.args.cursor;
  opens = c.requires.opens;
  end = c.part_of.new.cursor;
  walked = c.in_ok-part.ensures.walked;
  none = c.in_ok-part.ensures.end;
  within = c.in_ok-part.ensures.within;
  told = c.in_ok-part.ensures.openings;
}
