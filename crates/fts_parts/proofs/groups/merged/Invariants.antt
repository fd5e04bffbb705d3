use Rattle.std.proofs.Common.{◌≡◌, ◌≤◌, ◌+◌, ◌-◌, ◌++◌, length, drop, fold}
use Rattle.fts_parts.specs.Internals.Joins.{GroupsRise, add_group}
use Rattle.fts_parts.proofs.groups.merged.Given as goal

abbrev pub invariant-loop-i : goal.invariant-loop-i
invariant-loop-i l = record {
  front_in : l.i ≤ length l.front;
  back_in : l.j ≤ length l.back;
  so_far : GroupsRise l.back → l.list.items ++ fold add_group (drop l.i l.front) (drop l.j l.back) ≡ fold add_group l.front l.back;
}

abbrev pub decreases-loop-i : goal.decreases-loop-i
decreases-loop-i l = (length l.front - l.i) + (length l.back - l.j)
