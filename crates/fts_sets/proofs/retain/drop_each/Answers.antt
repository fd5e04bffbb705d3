-- One test more goes over the documents.
use Rattle.std.proofs.Common.{◌+◌, false, not, take, arith}
use Rattle.std.specs.Bool.{beq}
use Rattle.fts_sets.specs.Leaves.{leaf_has, one_has}
use Rattle.fts_sets.proofs.KeptLemmas.{kept_both, kept_every, none_next}
use Rattle.fts_sets.proofs.retain.drop_each.Goals as goal

pub loop-leaf-init : goal.loop-leaf-init
loop-leaf-init c = kept_every c.args.end c.args.docs.now (omega (arith, c.requires))

pub loop-leaf-preserved : goal.loop-leaf-preserved
loop-leaf-preserved c =
    let l = c.loop-leaf in
    let leaves = c.args.leaves.now in
    let one = c.leaf-item.result in
    kept_both (λ d. not (one_has (take l.leaf-index leaves) d)) (λ d. beq (leaf_has one d) false) (λ d. not (one_has (take (l.leaf-index + 1) leaves) d))
    (none_next leaves l.leaf-index one c.loop-leaf-test.true c.leaf-item.is) c.args.end c.args.docs.now l.docs c.keep_if-end.new.docs l.end c.keep_if-end.result
    l.invariant c.keep_if-end.ensures
