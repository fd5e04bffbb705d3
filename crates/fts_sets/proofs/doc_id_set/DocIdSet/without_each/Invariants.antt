-- The tests so far.
use Rattle.std.proofs.Common.{◌≡◌, not, take}
use Rattle.std.specs.List.{filter}
use Rattle.fts_sets.specs.Leaves.{one_has}
use Rattle.fts_sets.proofs.doc_id_set.DocIdSet.without_each.Given as goal

abbrev pub invariant-loop-leaf : goal.invariant-loop-leaf
invariant-loop-leaf l = l.self ≡ filter (λ d. not (one_has (take l.leaf-index l.leaves) d)) l.initial.self
