-- What passes one of the tests are the hits.
use Rattle.std.proofs.Common.{[], subst, ◌∙◌}
use Rattle.fts_model.specs.QueryValues.{query_value}
use Rattle.fts_postings.specs.Sets.{has}
use Rattle.fts_cursor.specs.Hits.{segment_hits}
use Rattle.fts_cursor.specs.Tests.{HasMore}
use Rattle.fts_cursor.proofs.TestsLemmas.{kept_more}
use Rattle.fts_cursor.proofs.hit_sets.keep_query.Goals as goal

pub returns-clause-kept : goal.returns-clause-kept
returns-clause-kept c = λ _.
    let test = has (segment_hits c.args.segment.now (query_value c.args.query.now)) in
    let leaves = c.push_query.new.leaves.items in
    let more : HasMore test [] leaves = subst (λ xs. HasMore test xs leaves) c.new-leaves.ensures.items (c.in_ok-push_query.ensures c.if-not-branch.false) in
    c.in_ok-with_any.ensures ∙ kept_more test leaves c.args.set.now more
