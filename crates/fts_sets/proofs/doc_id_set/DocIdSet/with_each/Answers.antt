-- One test more.
use Rattle.std.proofs.Common.{◌&&◌, ◌+◌, true, take, sym, ap, ◌∙◌}
use Rattle.std.specs.List.{filter}
use Rattle.std.proofs.lemmas.List.{take_all}
use Rattle.fts_sets.specs.declared.leaf.Leaf.{Leaf}
use Rattle.fts_sets.specs.Leaves.{all_have, leaf_has}
use Rattle.fts_sets.proofs.RowLemmas.{all_more}
use Rattle.fts_sets.proofs.SetLemmas.{filter-agree, filter-and, filter-every}
use Rattle.fts_sets.proofs.doc_id_set.DocIdSet.with_each.Goals as goal

pub loop-leaf-init : goal.loop-leaf-init
loop-leaf-init c = sym (filter-every c.args.self.now)

pub loop-leaf-preserved : goal.loop-leaf-preserved
loop-leaf-preserved c =
    let l = c.loop-leaf in
    let list = c.args.leaves.now in
    let leaf = c.leaf-item.result in
    c.in_ok-with.ensures.kept ∙ ap (filter (leaf_has leaf)) l.invariant ∙ filter-and (leaf_has leaf) (all_have (take l.leaf-index list)) c.args.self.now
    ∙ filter-agree (λ d. all_have (take l.leaf-index list) d && leaf_has leaf d) (all_have (take (l.leaf-index + 1) list)) c.args.self.now
    (λ d. all_more (λ (x : Leaf). leaf_has x d) list l.leaf-index leaf c.loop-leaf-test.true c.leaf-item.is true)

pub returns : goal.returns
returns c = c.loop-leaf.invariant ∙ ap (λ xs. filter (all_have xs) c.args.self.now) (take_all c.loop-leaf.leaf-index c.args.leaves.now c.loop-leaf-test.false)
