-- Those that are left decide.
use Rattle.std.proofs.Common.{◌≡◌, drop}
use Rattle.fts_sets.specs.Leaves.{one_has}
use Rattle.fts_sets.proofs.leaf.one_has.Given as goal

abbrev pub invariant-loop-leaf : goal.invariant-loop-leaf
invariant-loop-leaf l = one_has (drop l.leaf-index l.leaves) l.doc ≡ one_has l.leaves l.doc
