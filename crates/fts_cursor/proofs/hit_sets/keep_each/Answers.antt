-- What matches one query more.
use Rattle.std.proofs.Common.{◌&&◌, ◌+◌, take, sym, ap, ◌∙◌}
use Rattle.std.specs.List.{filter}
use Rattle.std.proofs.lemmas.List.{take_all}
use Rattle.fts_postings.specs.Sets.{has, in_all}
use Rattle.fts_cursor.specs.Tests.{hits_of_each}
use Rattle.fts_cursor.proofs.HitsLemmas.{hits_of}
use Rattle.fts_cursor.proofs.TestsLemmas.{each_more}
use Rattle.fts_sets.proofs.SetLemmas.{filter-agree, filter-and, filter-every}
use Rattle.fts_cursor.proofs.hit_sets.keep_each.Goals as goal

pub loop-query-init : goal.loop-query-init
loop-query-init c = sym (filter-every c.args.set.now)

pub loop-query-preserved : goal.loop-query-preserved
loop-query-preserved c =
    let l = c.loop-query in
    let segment = c.args.segment.now in
    let queries = c.args.queries.now in
    let q = c.query-item.result in
    let hits = has (hits_of segment q) in
    let so_far = in_all (hits_of_each segment (take l.query-index queries)) in
    c.in_ok-keep_query.ensures.kept c.if-not-branch.false ∙ ap (filter hits) l.invariant ∙ filter-and hits so_far c.args.set.now
    ∙ filter-agree (λ d. so_far d && hits d) (in_all (hits_of_each segment (take (l.query-index + 1) queries))) c.args.set.now
    (each_more segment queries l.query-index q c.loop-query-test.true c.query-item.is)

pub returns : goal.returns
returns c = λ _. c.loop-query.invariant
    ∙ ap (λ qs. filter (in_all (hits_of_each c.args.segment.now qs)) c.args.set.now) (take_all c.loop-query.query-index c.args.queries.now c.loop-query-test.false)
