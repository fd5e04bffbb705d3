-- The number is not among the ends so far.
use Rattle.std.proofs.Common.{◌≡◌, take}
use Rattle.fts_base.specs.Totals.{times}
use Rattle.fts_rounds.specs.Rounds.{lanes_of}
use Rattle.fts_rounds.proofs.round.has_lane.Given as goal

abbrev pub invariant-loop-end : goal.invariant-loop-end
invariant-loop-end l = times l.lane (lanes_of (take l.end-index l.ends)) ≡ 0
