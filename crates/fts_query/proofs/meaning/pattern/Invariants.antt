use Rattle.fts_text.specs.Places.{places_left}
use Rattle.fts_query.proofs.MeaningsLemmas.{Gathers}
use Rattle.fts_query.proofs.meaning.pattern.Given as goal

abbrev pub invariant-loop-place : goal.invariant-loop-place
invariant-loop-place l =
    (goal.iterator-loop-place).can_next l.place-iterator × (goal.iterator-loop-place).is_finite l.place-iterator
    × Gathers l.text l.from l.pattern.items (places_left l.place-iterator)
