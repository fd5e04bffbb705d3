-- Each lower number is among the ends.
use Rattle.std.proofs.Common.{ℕ, ◌<◌}
use Rattle.fts_base.specs.Totals.{times}
use Rattle.fts_rounds.specs.Rounds.{lanes_of}
use Rattle.fts_rounds.proofs.round.least_missing.Given as goal

abbrev pub invariant-loop-lane : goal.invariant-loop-lane
invariant-loop-lane l = (k : ℕ) → k < l.lane → 0 < times k (lanes_of l.ends)
