use Rattle.std.proofs.Common.{◌≡◌, sum, take}
use Rattle.fts_positions.proofs.position_lists.total.Given as goal

abbrev pub invariant-loop-count : goal.invariant-loop-count
invariant-loop-count l = l.total ≡ sum (take l.count-index l.counts)
