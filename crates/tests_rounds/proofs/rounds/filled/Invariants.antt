-- It stays the same lane.
use Rattle.fts_rounds.specs.Rounds.{SameLane}
use Rattle.tests_rounds.proofs.rounds.filled.Given as goal

abbrev pub invariant-loop : goal.invariant-loop
invariant-loop l = SameLane l.fn.lane l.lane
