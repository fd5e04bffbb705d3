-- The parts that the segments told make the answer over the content.
use Rattle.std.proofs.Common.{arith}
use Rattle.fts_model.specs.Queries.{hits}
use Rattle.fts_model.specs.QueryValues.{query_value}
use Rattle.fts_snapshots.specs.Snapshots.{content_of}
use Rattle.fts_collect.proofs.SearchLemmas.{length-hits, once_among_hits, parts_of_snapshot}
use Rattle.fts_collect.proofs.searches.search_alone.Goals as goal

pub returns-in-Ok-clause-answer : goal.returns-in-Ok-clause-answer
returns-in-Ok-clause-answer c =
    let s = c.args.snapshot.now in
    let query = query_value c.args.query.now in
    let whole = c.entries-entries.ensures.snapshot in
    c.in-Ok.ensures.joined (hits s.schema query (content_of s))
    (parts_of_snapshot s query c.args.request.now c.entries-entries.result.now c.in_ok-parts.parts.items whole c.entries-entries.ensures.entries
    c.in_ok-parts.ensures.parts)
    (once_among_hits s.schema query (content_of s) whole.stamps)
    (omega (arith, c.requires.few, length-hits s.schema query (content_of s)))
