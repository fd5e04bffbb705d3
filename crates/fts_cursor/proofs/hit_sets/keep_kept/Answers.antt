-- What matches each of the musts, or one of the shoulds.
use Rattle.std.proofs.Common.{◌≡◌, ◌<◌, [], length, subst, ◌∙◌, arith}
use Rattle.std.proofs.lemmas.List.{nil_from_length}
use Rattle.std.proofs.lemmas.Result.{IfOk-weaker}
use Rattle.fts_postings.specs.Sets.{in_some}
use Rattle.fts_cursor.specs.Tests.{HasMore, hits_of_each}
use Rattle.fts_cursor.proofs.TestsLemmas.{kept_all, kept_more, kept_some}
use Rattle.fts_cursor.proofs.hit_sets.keep_kept.Goals as goal

pub returns-then-not-is_empty : goal.returns-then-not-is_empty
returns-then-not-is_empty c =
    let must = c.args.must.now in
    let some : 0 < length must = grind (arith, c.is_empty.ensures, c.if-not-is_empty.true) in
    IfOk-weaker c.keep_each.result _ _ (λ told is yes. is yes ∙ kept_all c.args.segment.now must c.args.should.now c.args.set.now some) c.keep_each.ensures

pub returns : goal.returns
returns c = λ _.
    let must = c.args.must.now in
    let test = in_some (hits_of_each c.args.segment.now c.args.should.now) in
    let leaves = c.push_queries.new.leaves.items in
    let more : HasMore test [] leaves = subst (λ xs. HasMore test xs leaves) c.new-leaves.ensures.items (c.in_ok-push_queries.ensures c.if-not-branch.false) in
    let none : length must ≡ 0 = grind (arith, c.is_empty.ensures, c.if-not-is_empty.false) in
    c.in_ok-with_any.ensures ∙ kept_more test leaves c.args.set.now more
    ∙ kept_some c.args.segment.now must c.args.should.now c.args.set.now (nil_from_length must none)
