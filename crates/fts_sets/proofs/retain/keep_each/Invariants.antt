-- Those that pass the tests so far are at the front.
use Rattle.std.proofs.Common.{take}
use Rattle.fts_sets.specs.Kept.{IsKept}
use Rattle.fts_sets.specs.Leaves.{all_have}
use Rattle.fts_sets.proofs.retain.keep_each.Given as goal

abbrev pub invariant-loop-leaf : goal.invariant-loop-leaf
invariant-loop-leaf l = IsKept (all_have (take l.leaf-index l.leaves)) l.fn.end l.initial.docs l.docs l.end
