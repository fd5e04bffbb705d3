-- The sum so far, or its greatest value.
use Rattle.std.proofs.Common.{◌+◌, ◌-◌, ◌*◌, ◌^◌, ◌≤◌, min, take}
use Rattle.fts_cursor.specs.TreeValues.{heights}
use Rattle.fts_cursor.proofs.CostLemmas.{all_remaining}
use Rattle.fts_cursor.proofs.tree.+cost.Given as goal

abbrev pub decreases-Tree::cost : goal.decreases-Tree::cost
decreases-Tree::cost l = 2 * l.self.now.height

abbrev pub decreases-cost_in : goal.decreases-cost_in
decreases-cost_in l = 2 * heights l.parts.now + 1

abbrev pub invariant-cost_in-loop-part : goal.invariant-cost_in-loop-part
invariant-cost_in-loop-part l = min (2 ^ 64 - 1) (all_remaining (take l.part-index l.parts)) ≤ l.sum
