use Rattle.std.specs.List.{All}
use Rattle.fts_text.specs.Places.{places_left, IsPlaceIn}
use Rattle.cases_segments.proofs.texts.listed.Given as goal

abbrev pub invariant-loop-token : goal.invariant-loop-token
invariant-loop-token l =
    (goal.iterator-loop-token).can_next l.token-iterator × (goal.iterator-loop-token).is_finite l.token-iterator
    × All (IsPlaceIn l.text) (places_left l.token-iterator)
