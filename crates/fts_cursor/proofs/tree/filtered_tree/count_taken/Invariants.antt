-- Those counted so far and those that remain are all.
use Rattle.std.proofs.Common.{◌≡◌, ◌+◌, ◌-◌, ◌^◌, ◌≤◌, length, min}
use Rattle.std.specs.List.{filter}
use Rattle.fts_postings.specs.Sets.{has}
use Rattle.fts_cursor.specs.Standing.{Walked}
use Rattle.fts_cursor.proofs.tree.filtered_tree.count_taken.Given as goal

abbrev pub invariant-loop-first : goal.invariant-loop-first
invariant-loop-first l = record {
  sum : min (2 ^ 64 - 1) (l.count + length (filter (has l.set) l.tree.remaining))
      ≡ min (2 ^ 64 - 1) (length (filter (has l.set) l.initial.tree.remaining));
  fits : l.count ≤ 2 ^ 64 - 1;
  walked : Walked l.initial.tree.standing l.tree.standing;
}

abbrev pub decreases-loop-first : goal.decreases-loop-first
decreases-loop-first l = length l.tree.remaining
