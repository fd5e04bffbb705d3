-- The hits among all documents.
use Rattle.std.proofs.Common.{ap, sym, ◌∙◌}
use Rattle.std.specs.List.{filter, range_with_len}
use Rattle.fts_postings.specs.Sets.{has}
use Rattle.fts_cursor.proofs.HitsLemmas.{hits_of}
use Rattle.fts_model.specs.QueryValues.{query_value}
use Rattle.fts_cursor.proofs.OpensLemmas.{opens_free, opens_nothing}
use Rattle.fts_cursor.proofs.TestsLemmas.{told_all}
use Rattle.fts_cursor.proofs.told.told.Goals as goal

pub returns-clause-remaining : goal.returns-clause-remaining
returns-clause-remaining c =
    let segment = c.args.segment.now in
    let query = c.args.query.now in
    c.in_ok-tree.ensures.remaining ∙ c.new.ensures ∙ c.in_ok-keep_hits.ensures c.if-not-branch.false
    ∙ ap (filter (has (hits_of segment query))) (c.every-hits.ensures ∙ ap (range_with_len 0) c.docs-docs.ensures.len) ∙ told_all segment query

pub returns-clause-opens : goal.returns-clause-opens
returns-clause-opens c =
    let segment = c.args.segment.now in
    let query = query_value c.args.query.now in
    opens_free segment query c.in_ok-tree.tree.standing (sym c.is_free.ensures ∙ c.if-not-is_free.false) (opens_nothing segment query c.in_ok-tree.tree.standing c.in_ok-tree.ensures.counts.1)
