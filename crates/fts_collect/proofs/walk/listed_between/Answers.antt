use Rattle.std.proofs.Common.{◌++◌, ◌+◌, ◌<◌, ◌∙◌, ap, sym, subst, filter, length, All, List, ℕ, arith}
use Rattle.std.proofs.lemmas.List.Elements.{All-nil}
use Rattle.fts_pack.specs.ListRange.{lists_in_range}
use Rattle.fts_postings.specs.Sets.{has}
use Rattle.fts_segment.specs.Segments.{column}
use Rattle.fts_collect.specs.Internals.Walks.{AllFound, IsBetween}
use Rattle.fts_collect.proofs.BetweenLemmas.{between-more, found-more, found-whole}
use Rattle.fts_collect.proofs.walk.listed_between.Goals as goal

pub loop-index-init : goal.loop-index-init
loop-index-init c =
    let P : List ℕ → Type 0 = λ xs. All (IsBetween (column c.args.segment.now c.args.field) c.args.hits.now c.args.low c.args.high) xs in
    record {
      sound = subst P (sym c.in_ok-found.ensures.items) (All-nil (IsBetween (column c.args.segment.now c.args.field) c.args.hits.now c.args.low c.args.high));
      whole = λ k doc lt there live. absurd (omega (arith, lt));
    }

pub loop-index-preserved : goal.loop-index-preserved
loop-index-preserved c =
    let numbers = column c.args.segment.now c.args.field in
    let hits = c.args.hits.now in
    let lists = lists_in_range c.lists_between-lists.result in
    let i = c.loop-index.index in
    let old = c.loop-index.found.items in
    let inside : i < length lists = omega (arith, c.loop-index-test.true, c.len-index-end.ensures) in
    let new = c.in_ok-push_list.ensures ∙ ap (λ ds. old ++ filter (has hits) ds) c.get.ensures in
    let P : List ℕ → Type 0 = λ xs. All (IsBetween numbers hits c.args.low c.args.high) xs in
    let Q : List ℕ → Type 0 = λ xs. AllFound hits lists (i + 1) xs in
    record {
      sound = subst P (sym new) (between-more numbers hits c.args.low c.args.high lists i old (c.lists_between-lists.ensures.numbers c.requires) inside
          c.loop-index.invariant.sound);
      whole = subst Q (sym new) (found-more hits lists i old c.loop-index.invariant.whole);
    }

pub returns-clause-whole : goal.returns-clause-whole
returns-clause-whole c doc is =
    found-whole (column c.args.segment.now c.args.field) c.args.hits.now c.args.low c.args.high (lists_in_range c.lists_between-lists.result) c.loop-index.index
    c.loop-index.found.items
    (c.lists_between-lists.ensures.numbers c.requires) (omega (arith, c.loop-index-test.false, c.len-index-end.ensures)) c.loop-index.invariant.whole doc is
