-- Those that are left decide.
use Rattle.std.proofs.Common.{◌≡◌, drop}
use Rattle.fts_sets.specs.Leaves.{all_have}
use Rattle.fts_sets.proofs.leaf.all_have.Given as goal

abbrev pub invariant-loop-leaf : goal.invariant-loop-leaf
invariant-loop-leaf l = all_have (drop l.leaf-index l.leaves) l.doc ≡ all_have l.leaves l.doc
