-- One test more goes over the documents.
use Rattle.std.proofs.Common.{◌+◌, true, take, arith}
use Rattle.std.specs.Bool.{beq}
use Rattle.fts_sets.specs.Leaves.{all_have, leaf_has}
use Rattle.fts_sets.proofs.KeptLemmas.{all_passing, kept_both, kept_every}
use Rattle.fts_sets.proofs.retain.keep_each.Goals as goal

pub loop-leaf-init : goal.loop-leaf-init
loop-leaf-init c = kept_every c.args.end c.args.docs.now (omega (arith, c.requires))

pub loop-leaf-preserved : goal.loop-leaf-preserved
loop-leaf-preserved c =
    let l = c.loop-leaf in
    let leaves = c.args.leaves.now in
    let one = c.leaf-item.result in
    kept_both (all_have (take l.leaf-index leaves)) (λ d. beq (leaf_has one d) true) (all_have (take (l.leaf-index + 1) leaves))
    (all_passing leaves l.leaf-index one c.loop-leaf-test.true c.leaf-item.is) c.args.end c.args.docs.now l.docs c.keep_if-end.new.docs l.end c.keep_if-end.result
    l.invariant c.keep_if-end.ensures
