use Rattle.std.proofs.Common.{◌+◌, ◌*◌, ◌%◌, ◌^◌}
use Rattle.fts_pack.proofs.SumLemmas.{IsSummed}
use Rattle.fts_pack.proofs.prefix_sums.add_up.Given as goal

abbrev pub invariant-loop-row : goal.invariant-loop-row
invariant-loop-row l = IsSummed ((l.next + 4294967295) % 2 ^ 32) l.fn.out (4 * l.row) l.out l.last
