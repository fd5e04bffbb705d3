-- What is left of the proof of `parts_in_turn`.
use Rattle.std.proofs.Common.{◌≡◌, ◌++◌, ◌∷◌, [], true, sym, ap, ◌∙◌}
use Rattle.fts_model.specs.Queries.{query_fits, request_fits}
use Rattle.fts_model.specs.QueryValues.{query_value}
use Rattle.fts_snapshots.specs.Entries.{EntryValue}
use Rattle.fts_snapshots.specs.EntryLists.{entries_ahead}
use Rattle.fts_collect.specs.Searches.{IsPartOf}
use Rattle.fts_snapshots.proofs.EntryListLemmas.{next_has, passed, passed_more}
use Rattle.fts_collect.proofs.SearchLemmas.{zip_more}
use Rattle.fts_collect.proofs.searches.parts_in_turn.Goals as goal

pub part_by_gate-requires-clause-query : goal.part_by_gate-requires-clause-query
part_by_gate-requires-clause-query g c = λ κs lives.
    next_has (λ (e : EntryValue). query_fits e.segment.schema (query_value c.args.query.now) ≡ true) (passed c.loop-entry.yielded)
    (entries_ahead c.next.new.self) c.args.entries.now c.in-Some.entry.now
    (ap (λ es. passed c.loop-entry.yielded ++ es) (sym c.in-Some.ensures.steps) ∙ c.loop-entry.invariant.2) c.requires.query

pub part_by_gate-requires-clause-request : goal.part_by_gate-requires-clause-request
part_by_gate-requires-clause-request g c = λ κs lives.
    next_has (λ (e : EntryValue). request_fits e.segment.schema c.args.request.now ≡ true) (passed c.loop-entry.yielded)
    (entries_ahead c.next.new.self) c.args.entries.now c.in-Some.entry.now
    (ap (λ es. passed c.loop-entry.yielded ++ es) (sym c.in-Some.ensures.steps) ∙ c.loop-entry.invariant.2) c.requires.request

pub loop-entry-preserved : goal.loop-entry-preserved
loop-entry-preserved g c =
    let P = IsPartOf (query_value c.args.query.now) c.args.request.now in
    let more = passed_more c.loop-entry.yielded c.in-Some.entry (entries_ahead c.loop-entry.entry-iterator) (entries_ahead c.next.new.self)
    c.args.entries.now c.loop-entry.invariant.2 c.in-Some.ensures.steps in (
      tt,
      tt,
      more.1,
      zip_more P (passed c.loop-entry.yielded) (passed (c.loop-entry.yielded ++ c.in-Some.entry ∷ [])) c.in-Some.entry.now c.loop-entry.parts.items
          c.push.new.self.items c.in_ok-part.part c.loop-entry.invariant.3 c.in_ok-part.ensures.part more.0 c.in_ok-push.ensures.items,
    )
