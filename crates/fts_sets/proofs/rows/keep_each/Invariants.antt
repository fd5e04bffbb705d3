-- Those so far have changed the row.
use Rattle.std.proofs.Common.{◌&&◌, take}
use Rattle.fts_pack.specs.bits.Changes.{AreChanged}
use Rattle.fts_sets.specs.Leaves.{all_have}
use Rattle.fts_sets.proofs.rows.keep_each.Given as goal

abbrev pub invariant-loop-leaf : goal.invariant-loop-leaf
invariant-loop-leaf l = AreChanged (λ doc told. told && all_have (take l.leaf-index l.leaves) doc) l.index l.initial.row l.row
