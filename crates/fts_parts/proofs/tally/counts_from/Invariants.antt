use Rattle.std.proofs.Common.{◌≡◌, ◌+◌, ◌++◌, drop}
use Rattle.fts_parts.specs.Tallies.{counts_from}
use Rattle.fts_parts.proofs.tally.counts_from.Given as goal

abbrev pub invariant-loop-i : goal.invariant-loop-i
invariant-loop-i l = l.list.items ++ counts_from (l.least + l.i) (drop l.i l.counts) ≡ counts_from l.least l.counts
