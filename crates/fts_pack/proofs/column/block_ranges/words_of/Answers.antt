use Rattle.std.proofs.Common.{arith, subst}
use Rattle.std.proofs.Math.Facts.{Fits-of_lt}
use Rattle.fts_pack.specs.column.BlockRanges.{AreEnds}
use Rattle.fts_pack.proofs.BlocksLemmas.{ends_fit, first_all, first_more}
use Rattle.fts_pack.proofs.column.block_ranges.words_of.Goals as goal

pub overflow_cast-first : goal.overflow_cast-first
overflow_cast-first c =
    let ends = ends_fit c.args.values.now c.args.least c.args.width 32 c.loop-block.block c.ends_of-first.result c.requires.offsets
    (subst (λ vs. AreEnds c.args.least vs c.ends_of-first.result) c.block_at.ensures c.ends_of-first.ensures) c.requires.narrow (omega arith) in
    Fits-of_lt ends.0

pub overflow_cast-last : goal.overflow_cast-last
overflow_cast-last c =
    let ends = ends_fit c.args.values.now c.args.least c.args.width 32 c.loop-block.block c.ends_of-first.result c.requires.offsets
    (subst (λ vs. AreEnds c.args.least vs c.ends_of-first.result) c.block_at.ensures c.ends_of-first.ensures) c.requires.narrow (omega arith) in
    Fits-of_lt ends.1

pub loop-block-preserved : goal.loop-block-preserved
loop-block-preserved c =
    let block = c.loop-block.block in
    let ends = subst (λ vs. AreEnds c.args.least vs c.ends_of-first.result) c.block_at.ensures c.ends_of-first.ensures in
    rw c.in_ok-push.ensures.items (first_more c.args.least c.args.values.now block c.loop-block.words.items c.ends_of-first.result c.loop-block.invariant
    ends.range_is)

pub returns : goal.returns
returns c = first_all c.args.least c.args.values.now c.loop-block.block c.loop-block.words.items c.loop-block.invariant (omega arith)
