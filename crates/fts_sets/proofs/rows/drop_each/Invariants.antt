-- Those so far have changed the row.
use Rattle.std.proofs.Common.{◌&&◌, not, take}
use Rattle.fts_pack.specs.bits.Changes.{AreChanged}
use Rattle.fts_sets.specs.Leaves.{one_has}
use Rattle.fts_sets.proofs.rows.drop_each.Given as goal

abbrev pub invariant-loop-leaf : goal.invariant-loop-leaf
invariant-loop-leaf l = AreChanged (λ doc told. told && not (one_has (take l.leaf-index l.leaves) doc)) l.index l.initial.row l.row
