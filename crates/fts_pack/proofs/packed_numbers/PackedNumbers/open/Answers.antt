use Rattle.std.proofs.Common.{◌≡◌, ◌∙◌, length, take, drop, ap, ap₂, arith}
use Rattle.fts_pack.specs.FourLanes.{numbers_in_lanes}
use Rattle.fts_pack.proofs.NumbersLemmas.{blocks_kept, block_read}
use Rattle.fts_pack.proofs.packed_numbers.PackedNumbers.open.Goals as goal

pub index-requires : goal.index-requires
index-requires c = let n = c.self.inside in
    omega (arith, c.requires, blocks_kept c.args.self.now n.count n.blocks.items n.words.items c.self.view_is c.self.invariant)

pub split_at-requires : goal.split_at-requires
split_at-requires c = let n = c.self.inside in
    let r = block_read c.args.self.now n.count n.blocks.items n.words.items c.args.block c.index.result.now c.self.view_is c.self.invariant c.requires
    c.index.ensures in
    omega (arith, r.room, ap length c.deref.ensures.value)

pub unpack-requires : goal.unpack-requires
unpack-requires c = let n = c.self.inside in
    let r = block_read c.args.self.now n.count n.blocks.items n.words.items c.args.block c.index.result.now c.self.view_is c.self.invariant c.requires
    c.index.ensures in
    record {
      narrow = r.narrow;
      room = omega (arith, r.room, c.split_at.ensures.back_len, ap length c.deref.ensures.value);
    }

pub overflow_mul-block : goal.overflow_mul-block
overflow_mul-block c = let n = c.self.inside in
    let r = block_read c.args.self.now n.count n.blocks.items n.words.items c.args.block c.index.result.now c.self.view_is c.self.invariant c.requires
    c.index.ensures in
    omega (arith, r.start, c.self.invariant.few)

pub overflow_sub-self-inside : goal.overflow_sub-self-inside
overflow_sub-self-inside c = let n = c.self.inside in
    let r = block_read c.args.self.now n.count n.blocks.items n.words.items c.args.block c.index.result.now c.self.view_is c.self.invariant c.requires
    c.index.ensures in
    omega (arith, r.start)

pub returns-clause-count : goal.returns-clause-count
returns-clause-count c = let n = c.self.inside in
    let r = block_read c.args.self.now n.count n.blocks.items n.words.items c.args.block c.index.result.now c.self.view_is c.self.invariant c.requires
    c.index.ensures in
    c.min.ensures ∙ r.size

pub returns-clause-numbers : goal.returns-clause-numbers
returns-clause-numbers c = let n = c.self.inside in
    let r = block_read c.args.self.now n.count n.blocks.items n.words.items c.args.block c.index.result.now c.self.view_is c.self.invariant c.requires
    c.index.ensures in
    let block = c.index.result.now in
    let words : c.split_at.result.1.now ≡ drop block.start n.words.items = c.split_at.ensures.back ∙ ap (drop block.start) c.deref.ensures.value in
    ap₂ take c.min.ensures (c.unpack.ensures ∙ ap (numbers_in_lanes block.width) words) ∙ r.numbers_are
