-- What was passed over isn't in the set.
use Rattle.std.proofs.Common.{◌≡◌, ◌≤◌, ◌-◌}
use Rattle.fts_postings.specs.Remaining.{at_least}
use Rattle.fts_sets.specs.Rows.{Holds}
use Rattle.fts_sets.proofs.set_cursor.find.Given as goal

abbrev pub invariant-loop-at : goal.invariant-loop-at
invariant-loop-at l = record {
  same : at_least l.at l.set ≡ at_least l.from l.set;
  near : l.reach ≤ 4095;
  holds : Holds l.set l.at l.window;
}

abbrev pub decreases-loop-at : goal.decreases-loop-at
decreases-loop-at l = l.docs - l.at
