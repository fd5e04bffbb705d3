-- The tests of a Boolean query are those of its shoulds.
use Rattle.std.proofs.Common.{◌≡◌, ◌+◌, ◌*◌, ◌<◌, ◌||◌, length, ap, sym, ◌∙◌, arith}
use Rattle.std.specs.List.{list_all}
use Rattle.std.proofs.lemmas.Bool.{eqb-true}
use Rattle.std.proofs.lemmas.List.{nil_from_length}
use Rattle.std.proofs.lemmas.Result.{IfOk-weaker}
use Rattle.fts_model.specs.QueryValues.{query_value}
use Rattle.fts_model.proofs.QueriesBoolean.{fits_in, matches_at_bool, matches_in}
use Rattle.fts_postings.specs.Sets.{has, in_some}
use Rattle.fts_cursor.specs.Tests.{hits_of_each}
use Rattle.fts_sets.specs.Leaves.{one_has}
use Rattle.fts_cursor.proofs.BoolHits.{IsBool}
use Rattle.fts_cursor.proofs.DepthLemmas.{depth, depth_at, one_of_all, parts_fall}
use Rattle.fts_cursor.proofs.HitsLemmas.{hits_of}
use Rattle.fts_cursor.proofs.OpensLemmas.{nothing_found, parts_fit}
use Rattle.fts_cursor.proofs.TestsLemmas.{HasMore-none, shoulds_are}
use Rattle.fts_cursor.proofs.hit_sets.+tests.Goals as goal

pub push_queries-push_query-requires : goal.push_queries-push_query-requires
push_queries-push_query-requires t c =
    let falls = depth_at c.args.queries.now c.loop-query.query-index c.query-item.result c.loop-query-test.true c.query-item.is in
    let less : 3 * depth (query_value c.query-item.result) + 0 < t = omega (arith, falls, c.decreases) in (
      less,
      one_of_all (fits_in c.args.segment.now.schema) c.args.queries.now c.loop-query.query-index c.query-item.result c.requires c.loop-query-test.true
          c.query-item.is,
    )

pub push_query-push_queries-requires : goal.push_query-push_queries-requires
push_query-push_queries-requires t c =
    let falls = parts_fall t c.args.query.now c.in-Bool.must c.in-Bool.must_not c.in-Bool.should c.in-Bool.is (omega (arith, c.decreases)) in
    let fit = parts_fit c.args.segment.now.schema c.args.query.now c.in-Bool.must c.in-Bool.must_not c.in-Bool.should c.in-Bool.is c.requires in
    (rw c.deref.ensures.value falls.2, ap (list_all (fits_in c.args.segment.now.schema)) c.deref.ensures.value ∙ fit.2)

pub push_query-returns-in-None : goal.push_query-returns-in-None
push_query-returns-in-None t c = λ _.
    let segment = c.args.segment.now in
    HasMore-none (has (hits_of segment c.args.query.now)) c.args.leaves.now.items
    (λ d. ap (λ xs. has xs d) (sym (nothing_found segment c.args.query.now c.in-None.is)))

pub push_query-returns-else-not-is_empty-2 : goal.push_query-returns-else-not-is_empty-2
push_query-returns-else-not-is_empty-2 t c =
    let segment = c.args.segment.now in
    let b = c.in-Bool in
    let bool : IsBool segment c.args.query.now b.must.items b.must_not.items b.should.items = λ document. ap (matches_in segment.schema document) b.is
    ∙ matches_at_bool segment.schema document b.must b.must_not b.should in
    let none : length b.must.items ≡ 0 = omega (arith, eqb-true b.must.len 0 (sym c.is_empty.ensures ∙ c.if-not-is_empty.false)) in
    let gone : length b.must_not.items ≡ 0 = omega (arith, eqb-true b.must_not.len 0 (sym c.is_empty-in-Bool.ensures ∙ c.if-not-is_empty-2.false)) in
    IfOk-weaker c.push_queries.result _ _ (λ told more is d.
    more is d ∙ ap (λ b. one_has c.args.leaves.now.items d || b) (ap (λ qs. in_some (hits_of_each segment qs) d) c.deref.ensures.value
    ∙ shoulds_are segment c.args.query.now b.must.items b.must_not.items b.should.items bool (nil_from_length b.must.items none)
    (nil_from_length b.must_not.items gone) d)) c.push_queries.ensures
