-- The documents of the tests so far.
use Rattle.std.proofs.Common.{ℕ, ◌+◌, ◌*◌, ◌<◌, get_or, take}
use Rattle.fts_sets.specs.Leaves.{one_has}
use Rattle.fts_sets.specs.Rows.{Tells}
use Rattle.fts_sets.proofs.rows.some.Given as goal

abbrev pub invariant-loop-leaf : goal.invariant-loop-leaf
invariant-loop-leaf l = (k : ℕ) → k < l.words → Tells (one_has (take l.leaf-index l.leaves)) (64 * (l.index + k)) (get_or l.row k 0)
