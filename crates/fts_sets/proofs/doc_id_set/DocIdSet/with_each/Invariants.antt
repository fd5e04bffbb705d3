-- The tests so far.
use Rattle.std.proofs.Common.{◌≡◌, take}
use Rattle.std.specs.List.{filter}
use Rattle.fts_sets.specs.Leaves.{all_have}
use Rattle.fts_sets.proofs.doc_id_set.DocIdSet.with_each.Given as goal

abbrev pub invariant-loop-leaf : goal.invariant-loop-leaf
invariant-loop-leaf l = l.self ≡ filter (all_have (take l.leaf-index l.leaves)) l.initial.self
