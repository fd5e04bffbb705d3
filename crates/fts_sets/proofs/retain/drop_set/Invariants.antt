-- Those of the documents so far whose bit is not set are at the front.
use Rattle.std.proofs.Common.{false}
use Rattle.std.specs.Bool.{beq}
use Rattle.std.proofs.lemmas.List.Filters.{FiltersInPlace}
use Rattle.fts_postings.specs.Windows.{is_set}
use Rattle.fts_sets.proofs.retain.drop_set.Given as goal

abbrev pub invariant-loop-index : goal.invariant-loop-index
invariant-loop-index l = FiltersInPlace (λ d. beq (is_set l.bits d) false) l.initial.docs l.docs l.kept l.index
