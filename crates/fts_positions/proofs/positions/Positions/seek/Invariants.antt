-- Only positions below this one were passed.
use Rattle.std.proofs.Common.{length}
use Rattle.fts_positions.specs.PositionsLeft.{AreSameFrom, positions_left}
use Rattle.fts_positions.proofs.positions.Positions.seek.Given as goal

abbrev pub invariant-loop-self : goal.invariant-loop-self
invariant-loop-self l = AreSameFrom l.position (positions_left l.self) (positions_left l.initial.self)

abbrev pub decreases-loop-self : goal.decreases-loop-self
decreases-loop-self l = length (positions_left l.self)
