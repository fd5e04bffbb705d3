-- All documents but those that match one.
use Rattle.std.proofs.Common.{◌&&◌, [], not, length, ap, ap₂, subst, ◌∙◌}
use Rattle.std.specs.List.{filter, range_with_len}
use Rattle.fts_postings.specs.Sets.{has, in_some}
use Rattle.fts_sets.specs.Leaves.{one_has}
use Rattle.fts_sets.proofs.SetLemmas.{has-filter, has-all_below}
use Rattle.fts_cursor.specs.Tests.{HasMore, hits_of_each}
use Rattle.fts_cursor.proofs.told.set_without.Goals as goal

pub returns : goal.returns
returns c = λ d.
    let segment = c.args.segment.now in
    let leaves = c.push_queries.new.leaves.items in
    let n = length segment.documents in
    let test = in_some (hits_of_each segment c.args.queries.now) in
    let more : HasMore test [] leaves = subst (λ xs. HasMore test xs leaves) c.new-leaves.ensures.items (c.in_ok-push_queries.ensures c.if-not-branch.false) in
    ap (λ xs. has xs d) (c.in_ok-without_each.ensures ∙ ap (λ ls. filter (λ e. not (one_has ls e)) c.every-set.result) c.deref.ensures.value
    ∙ ap (filter (λ e. not (one_has leaves e))) (c.every-set.ensures ∙ ap (range_with_len 0) c.docs.ensures.len))
    ∙ has-filter (λ e. not (one_has leaves e)) (range_with_len 0 n) d ∙ ap₂ (λ a b. a && not b) (has-all_below n d) (more d)
