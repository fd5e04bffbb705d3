use Rattle.std.proofs.Common.{arith, subst}
use Rattle.fts_pack.specs.column.BlockRanges.{AreEnds}
use Rattle.fts_pack.proofs.BlocksLemmas.{first_all, first_more}
use Rattle.fts_pack.proofs.column.block_ranges.longs_of.Goals as goal

pub loop-block-preserved : goal.loop-block-preserved
loop-block-preserved c =
    let block = c.loop-block.block in
    let ends = subst (λ vs. AreEnds c.args.least vs c.ends_of.result) c.block_at.ensures c.ends_of.ensures in
    rw c.in_ok-push.ensures.items (first_more c.args.least c.args.values.now block c.loop-block.longs.items c.ends_of.result c.loop-block.invariant
    ends.range_is)

pub returns : goal.returns
returns c = first_all c.args.least c.args.values.now c.loop-block.block c.loop-block.longs.items c.loop-block.invariant (omega arith)
