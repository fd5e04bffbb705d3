use Rattle.std.proofs.Common.{◌≡◌, ◌∙◌, ◌<◌, ◌^◌, ℕ, true, List, All, length, sym, subst, rules}
use Rattle.std.proofs.lemmas.List.Elements.{All-filter}
use Rattle.fts_segment.specs.Segments.{column}
use Rattle.fts_collect.specs.Internals.Walks.{has_between}
use Rattle.fts_collect.proofs.WalkedLemmas.{walked}
use Rattle.fts_collect.proofs.walk.offer_best.Goals as goal

pub offer_each-requires : goal.offer_each-requires
offer_each-requires c =
    let segment = c.args.segment.now in
    let bounds = c.ends-bounds.result in
    let P : List ℕ → Type 0 = λ ds. All (λ doc. doc < length segment.documents) ds in
    subst P (sym (c.deref-best.ensures.value ∙ c.in_ok-found.ensures))
    (All-filter (has_between (column segment c.args.top.by) bounds.0 bounds.1) (λ doc. doc < length segment.documents) c.args.hits.now c.requires.hits.within)

pub returns-clause-offered : goal.returns-clause-offered
returns-clause-offered c = λ _.
    let bounds = c.ends-bounds.result in
    let range : ℕ × ℕ = (c.in-Some.least, c.in-Some.greatest) in
    let fits : c.in-Some.greatest < 2 ^ 64 = search rules in
    let small : bounds.0 < 2 ^ 64 = search rules in
    walked c.args.segment.now c.args.top c.args.hits.now range bounds.0 bounds.1 c.numbers_of.result.now c.deref-best.result.now c.args.top_k.now
    c.offer_each.new.top_k
    c.numbers_of.ensures c.in-Some.ensures fits small c.ends-bounds.ensures (c.deref-best.ensures.value ∙ c.in_ok-found.ensures)
    (let enough : c.are_enough.result ≡ true = search rules in c.are_enough.ensures enough) c.in_ok-offer_each.ensures.ok
