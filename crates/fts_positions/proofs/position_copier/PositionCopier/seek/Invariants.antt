use Rattle.std.proofs.Common.{◌≡◌, ◌≤◌, ◌-◌}
use Rattle.fts_positions.proofs.position_copier.PositionCopier.seek.Given as goal

abbrev pub invariant-loop-self : goal.invariant-loop-self
invariant-loop-self l = record {
  counts : l.self.counts.numbers.now ≡ l.fn.self.counts.numbers.now;
  gaps : l.self.gaps.numbers.now ≡ l.fn.self.gaps.numbers.now;
  before : l.self.list ≤ l.list;
}

abbrev pub decreases-loop-self : goal.decreases-loop-self
decreases-loop-self l = l.list - l.self.list
