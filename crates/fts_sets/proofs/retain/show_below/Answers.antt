-- One of the tests shows it.
use Rattle.fts_sets.proofs.KeptLemmas.{below_by_one}
use Rattle.fts_sets.proofs.retain.show_below.Goals as goal

pub returns-then-is_below : goal.returns-then-is_below
returns-then-is_below c = λ _. below_by_one c.args.leaves.now c.loop-leaf.leaf-index c.leaf-item.result c.args.count c.loop-leaf-test.true c.leaf-item.is
    (c.is_below.ensures c.if-is_below.true)
