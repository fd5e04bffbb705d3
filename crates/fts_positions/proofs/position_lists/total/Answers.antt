use Rattle.std.proofs.Common.{◌+◌, arith}
use Rattle.fts_positions.proofs.UnpackedLemmas.{sum-more, sum-within}
use Rattle.fts_positions.proofs.position_lists.total.Goals as goal

pub overflow_add-total : goal.overflow_add-total
overflow_add-total c = let i = c.loop-count.count-index in
    omega (arith, sum-more c.args.counts.now i c.loop-count-test.true, sum-within c.args.counts.now (i + 1), c.requires, c.loop-count.invariant)
