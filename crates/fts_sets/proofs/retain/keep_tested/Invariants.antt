-- Those of the documents so far that pass are at the front.
use Rattle.std.specs.Bool.{beq}
use Rattle.std.proofs.lemmas.List.Filters.{FiltersInPlace}
use Rattle.fts_sets.specs.Leaves.{leaf_has}
use Rattle.fts_sets.proofs.retain.keep_tested.Given as goal

abbrev pub invariant-loop-index : goal.invariant-loop-index
invariant-loop-index l = FiltersInPlace (λ d. beq (leaf_has l.leaf d) l.passing) l.initial.docs l.docs l.kept l.index
