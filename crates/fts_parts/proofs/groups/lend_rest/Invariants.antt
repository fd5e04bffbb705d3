use Rattle.std.proofs.Common.{◌≡◌, ◌-◌, ◌++◌, drop, length}
use Rattle.fts_parts.proofs.groups.lend_rest.Given as goal

abbrev pub invariant-loop-i : goal.invariant-loop-i
invariant-loop-i l = l.list.items ++ drop l.i l.groups ≡ l.fn.list.items ++ drop l.from l.groups

abbrev pub decreases-loop-i : goal.decreases-loop-i
decreases-loop-i l = length l.groups - l.i
