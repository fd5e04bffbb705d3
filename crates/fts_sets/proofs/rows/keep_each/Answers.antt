-- One test more.
use Rattle.std.proofs.Common.{◌&&◌, ◌+◌, take}
use Rattle.std.proofs.Math.Bool.{and-true}
use Rattle.fts_pack.proofs.ChangeLemmas.{AreChanged-none, AreChanged-then}
use Rattle.fts_sets.specs.declared.leaf.Leaf.{Leaf}
use Rattle.fts_sets.specs.Leaves.{all_have, leaf_has}
use Rattle.fts_sets.proofs.RowLemmas.{all_more}
use Rattle.fts_sets.proofs.rows.keep_each.Goals as goal

pub loop-leaf-init : goal.loop-leaf-init
loop-leaf-init c = AreChanged-none _ c.args.index c.args.row.now (λ d b. and-true b)

pub loop-leaf-preserved : goal.loop-leaf-preserved
loop-leaf-preserved c =
    let list = c.args.leaves.now in
    let l = c.loop-leaf in
    let leaf = c.leaf-item.result in
    AreChanged-then (λ doc told. told && all_have (take l.leaf-index list) doc) (λ doc told. told && leaf_has leaf doc)
    (λ doc told. told && all_have (take (l.leaf-index + 1) list) doc) c.args.index c.args.row.now l.row _
    (λ d told. all_more (λ (x : Leaf). leaf_has x d) list l.leaf-index leaf c.loop-leaf-test.true c.leaf-item.is told) l.invariant c.keep.ensures
