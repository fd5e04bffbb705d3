-- It stays the same lane.
use Rattle.fts_rounds.specs.Rounds.{SameLane}
use Rattle.testing_writers.proofs.batches.submit_all.Given as goal

abbrev pub invariant-loop-op : goal.invariant-loop-op
invariant-loop-op l = SameLane l.fn.lane l.lane
