-- Those counted so far and those that remain are all, and the window is at the next.
use Rattle.std.proofs.Common.{◌≡◌, ◌+◌, ◌-◌, ◌^◌, ◌≤◌, length, min}
use Rattle.std.specs.List.{filter}
use Rattle.fts_postings.specs.Windows.{is_set}
use Rattle.fts_cursor.specs.Standing.{Walked}
use Rattle.fts_cursor.specs.Trees.{StandsAt, gathered, tree_value}
use Rattle.fts_cursor.specs.declared.tree.Node.TheVariants.{Or}
use Rattle.fts_cursor.proofs.tree.buffered_union.count_set.Given as goal

abbrev pub invariant-loop-next : goal.invariant-loop-next
invariant-loop-next l = record {
  sum : min (2 ^ 64 - 1) (l.count + length (filter (is_set l.bits) (gathered l.buffered)))
      ≡ min (2 ^ 64 - 1) (length (filter (is_set l.bits) (gathered l.initial.buffered)));
  fits : l.count ≤ 2 ^ 64 - 1;
  stands : StandsAt l.next (Or l.buffered);
  walked : Walked (tree_value (Or l.initial.buffered)).standing (tree_value (Or l.buffered)).standing;
}

abbrev pub decreases-loop-next : goal.decreases-loop-next
decreases-loop-next l = length (gathered l.buffered)
