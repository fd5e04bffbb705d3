-- Those of the documents so far that pass are at the front.
use Rattle.std.proofs.lemmas.List.Filters.{FiltersInPlace}
use Rattle.fts_sets.specs.Leaves.{rest_has}
use Rattle.fts_sets.proofs.retain.keep_rest.Given as goal

abbrev pub invariant-loop-index : goal.invariant-loop-index
invariant-loop-index l = FiltersInPlace (rest_has l.below l.any l.none) l.initial.docs l.docs l.kept l.index
