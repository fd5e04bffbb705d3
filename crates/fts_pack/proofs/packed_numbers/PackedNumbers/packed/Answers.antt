use Rattle.std.proofs.Common.{◌≡◌, ◌<◌, length, arith}
use Rattle.fts_pack.specs.Documents.{block_count}
use Rattle.fts_pack.proofs.DocumentsLemmas.{block_sliced, block_count-div_ceil}
use Rattle.fts_pack.proofs.NumbersLemmas.{AreBuilt, AreBuilt-more, AreKept-built, numbers_kept-built}
use Rattle.fts_pack.proofs.packed_numbers.PackedNumbers.packed.Goals as goal

pub loop-block-preserved : goal.loop-block-preserved
loop-block-preserved c =
    let numbers = c.args.numbers.now in
    let block = c.loop-block.block in
    let added = rw (block_sliced numbers block c.min-end.result c.min-end.ensures) at c.in_ok-packed.ensures.ok in
    let inside : block < block_count (length numbers) =
    omega (arith, c.loop-block-test.true, c.div_ceil-count.ensures, block_count-div_ceil (length numbers)) in
    rw c.in_ok-push.ensures.items (AreBuilt-more numbers block c.loop-block.blocks.items c.loop-block.words.items c.add_block.new.words.items
    c.in_ok-packed.packed c.loop-block.invariant inside added)

built : (c : goal.After-shrink_to_fit) →
    AreBuilt c.args.numbers.now (block_count (length c.args.numbers.now)) c.loop-block.blocks.items c.shrink_to_fit.new.self.items
built c =
    let numbers = c.args.numbers.now in
    let all : c.loop-block.block ≡ block_count (length numbers) =
    omega (arith, c.loop-block-test.false, c.div_ceil-count.ensures, block_count-div_ceil (length numbers)) in
    rw (← all, c.shrink_to_fit.ensures.items) c.loop-block.invariant

pub invariant_of-result : goal.invariant_of-result
invariant_of-result c = AreKept-built c.args.numbers.now c.loop-block.blocks.items c.shrink_to_fit.new.self.items (built c) (omega arith)

pub returns : goal.returns
returns c = numbers_kept-built c.args.numbers.now c.loop-block.blocks.items c.shrink_to_fit.new.self.items (built c)
