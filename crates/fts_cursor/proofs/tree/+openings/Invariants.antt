-- The sum so far, or its greatest value.
use Rattle.std.proofs.Common.{◌≡◌, ◌+◌, ◌-◌, ◌*◌, ◌^◌, ◌≤◌, min, take}
use Rattle.fts_cursor.specs.TreeValues.{all_most, all_openings, heights}
use Rattle.fts_cursor.proofs.tree.+openings.Given as goal

abbrev pub decreases-Tree::openings : goal.decreases-Tree::openings
decreases-Tree::openings l = 2 * l.self.now.height

abbrev pub decreases-openings_in : goal.decreases-openings_in
decreases-openings_in l = 2 * heights l.parts.now + 1

abbrev pub invariant-openings_in-loop-part : goal.invariant-openings_in-loop-part
invariant-openings_in-loop-part l = record {
  sum : l.sum ≡ min (2 ^ 64 - 1) (all_openings (take l.part-index l.parts));
  bound : all_openings (take l.part-index l.parts) ≤ all_most (take l.part-index l.parts);
}
