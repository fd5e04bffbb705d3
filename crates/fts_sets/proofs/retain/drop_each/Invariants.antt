-- Those that pass none of the tests so far are at the front.
use Rattle.std.proofs.Common.{not, take}
use Rattle.fts_sets.specs.Kept.{IsKept}
use Rattle.fts_sets.specs.Leaves.{one_has}
use Rattle.fts_sets.proofs.retain.drop_each.Given as goal

abbrev pub invariant-loop-leaf : goal.invariant-loop-leaf
invariant-loop-leaf l = IsKept (λ d. not (one_has (take l.leaf-index l.leaves) d)) l.fn.end l.initial.docs l.docs l.end
