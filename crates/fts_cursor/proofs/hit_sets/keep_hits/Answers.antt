-- What is kept, without what is dropped, are the hits of a Boolean query.
use Rattle.std.proofs.Common.{[], not, subst, ap, ap₂, ◌∙◌}
use Rattle.std.specs.List.{filter, list_all}
use Rattle.fts_model.proofs.QueriesBoolean.{fits_in, matches_at_bool, matches_in}
use Rattle.fts_postings.specs.Sets.{in_some}
use Rattle.fts_cursor.specs.Tests.{HasMore, hits_of_each, is_kept}
use Rattle.fts_cursor.proofs.BoolHits.{IsBool}
use Rattle.fts_cursor.proofs.OpensLemmas.{parts_fit}
use Rattle.fts_cursor.proofs.TestsLemmas.{told_bool}
use Rattle.fts_sets.specs.Leaves.{one_has}
use Rattle.fts_cursor.proofs.hit_sets.keep_hits.Goals as goal

pub keep_kept-requires-clause-must : goal.keep_kept-requires-clause-must
keep_kept-requires-clause-must c =
    let fit = parts_fit c.args.segment.now.schema c.args.query.now c.in-Bool.must c.in-Bool.must_not c.in-Bool.should c.in-Bool.is c.requires in
    ap (list_all (fits_in c.args.segment.now.schema)) c.deref.ensures.value ∙ fit.0

pub keep_kept-requires-clause-should : goal.keep_kept-requires-clause-should
keep_kept-requires-clause-should c =
    let fit = parts_fit c.args.segment.now.schema c.args.query.now c.in-Bool.must c.in-Bool.must_not c.in-Bool.should c.in-Bool.is c.requires in
    ap (list_all (fits_in c.args.segment.now.schema)) c.deref-2.ensures.value ∙ fit.2

pub push_queries-requires : goal.push_queries-requires
push_queries-requires c =
    let fit = parts_fit c.args.segment.now.schema c.args.query.now c.in-Bool.must c.in-Bool.must_not c.in-Bool.should c.in-Bool.is c.requires in
    ap (list_all (fits_in c.args.segment.now.schema)) c.deref-3.ensures.value ∙ fit.1

pub returns : goal.returns
returns c = λ _.
    let segment = c.args.segment.now in
    let b = c.in-Bool in
    let must = b.must.items in
    let must_not = b.must_not.items in
    let should = b.should.items in
    let set = c.args.set.now in
    let dropped = c.push_queries.new.leaves.items in
    let bool : IsBool segment c.args.query.now must must_not should = λ document. ap (matches_in segment.schema document) b.is
    ∙ matches_at_bool segment.schema document b.must b.must_not b.should in
    let test = in_some (hits_of_each segment must_not) in
    let more : HasMore test [] dropped =
    subst (λ qs. HasMore (in_some (hits_of_each segment qs)) [] dropped) c.deref-3.ensures.value
    (subst (λ xs. HasMore (in_some (hits_of_each segment c.deref-3.result.now)) xs dropped) c.new-leaves.ensures.items
    (c.in_ok-push_queries.ensures c.if-not-branch-2.false)) in
    let kept = c.in_ok-keep_kept.ensures c.if-not-branch.false
    ∙ ap₂ (λ ms ss. filter (is_kept (hits_of_each segment ms) (hits_of_each segment ss)) set) c.deref.ensures.value c.deref-2.ensures.value in
    c.in_ok-without_each.ensures ∙ ap (λ ls. filter (λ d. not (one_has ls d)) c.keep_kept.new.set) c.deref-4.ensures.value
    ∙ ap (filter (λ d. not (one_has dropped d))) kept ∙ told_bool segment c.args.query.now must must_not should dropped set bool more
