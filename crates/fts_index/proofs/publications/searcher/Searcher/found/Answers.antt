-- The parts of the segments make the answer over the content.
use Rattle.std.proofs.Common.{◌-◌, ◌^◌, List, min, sum_by, subst, ap, ◌∙◌, refl, arith}
use Rattle.fts_model.specs.Queries.{hits}
use Rattle.fts_model.specs.QueryValues.{query_value}
use Rattle.fts_parts.specs.Parts.{PartValue}
use Rattle.fts_snapshots.specs.Snapshots.{IsSnapshot, content_of}
use Rattle.fts_collect.proofs.SearchLemmas.{length-hits, of_parts, once_among_hits, opens_in_all, parts_of_snapshot}
use Rattle.fts_index.proofs.publications.searcher.Searcher.found.Goals as goal

pub returns-in-Ok-clause-answer : goal.returns-in-Ok-clause-answer
returns-in-Ok-clause-answer c =
    let s = c.args.self.now.snapshot in
    let query = query_value c.args._query.now in
    let whole = subst IsSnapshot c.snapshot.ensures.snapshot c.entries-entries.ensures.snapshot in
    c.in-Ok.ensures.joined (hits s.schema query (content_of s))
    (parts_of_snapshot s query c.args.request.now s.entries c.args.parts.items whole refl c.requires)
    (once_among_hits s.schema query (content_of s) whole.stamps)
    (omega (arith, c.snapshot.ensures.front.stamped.few, length-hits s.schema query (content_of s)))

pub returns-in-Ok-clause-openings : goal.returns-in-Ok-clause-openings
returns-in-Ok-clause-openings c =
    let s = c.args.self.now.snapshot in
    let query = query_value c.args._query.now in
    let whole = subst IsSnapshot c.snapshot.ensures.snapshot c.entries-entries.ensures.snapshot in
    let all = c.openings_of-openings.ensures
    ∙ ap (λ (ps : List PartValue). min (2 ^ 64 - 1) (sum_by (λ part. part.openings) ps)) c.deref.ensures.value in
    opens_in_all s query c.args.request.now s.entries c.args.parts.items whole refl c.requires c.openings_of-openings.result all

pub returns-in-Ok-clause-parts : goal.returns-in-Ok-clause-parts
returns-in-Ok-clause-parts c =
    let s = c.args.self.now.snapshot in
    let query = query_value c.args._query.now in
    let whole = subst IsSnapshot c.snapshot.ensures.snapshot c.entries-entries.ensures.snapshot in
    let all = c.openings_of-openings.ensures
    ∙ ap (λ (ps : List PartValue). min (2 ^ 64 - 1) (sum_by (λ part. part.openings) ps)) c.deref.ensures.value in
    of_parts s query c.args.request.now s.entries c.args.parts.items whole refl c.requires c.openings_of-openings.result all
