use Rattle.std.proofs.Common.{◌≡◌, ◌∙◌, ◌%◌, length, drop, get_or, ap, arith}
use Rattle.fts_pack.specs.FourLanes.{numbers_in_lanes}
use Rattle.fts_pack.proofs.NumbersLemmas.{block_near, number_read}
use Rattle.fts_pack.proofs.packed_numbers.PackedNumbers.get.Goals as goal

pub index-requires : goal.index-requires
index-requires c = let n = c.self.inside in
    omega (arith, block_near c.args.self.now n.count n.blocks.items n.words.items c.args.index c.self.view_is c.self.invariant c.requires)

pub split_at-requires : goal.split_at-requires
split_at-requires c = let n = c.self.inside in
    let r = number_read c.args.self.now n.count n.blocks.items n.words.items c.args.index c.index.result.now c.self.view_is c.self.invariant c.requires
    c.index.ensures in
    omega (arith, r.within.room, ap length c.deref.ensures.value)

pub read-requires : goal.read-requires
read-requires c = let n = c.self.inside in
    let r = number_read c.args.self.now n.count n.blocks.items n.words.items c.args.index c.index.result.now c.self.view_is c.self.invariant c.requires
    c.index.ensures in
    record {
      narrow = r.within.narrow;
      near = omega arith;
      room = omega (arith, r.within.room, c.split_at.ensures.back_len, ap length c.deref.ensures.value);
    }

pub returns : goal.returns
returns c = let n = c.self.inside in
    let r = number_read c.args.self.now n.count n.blocks.items n.words.items c.args.index c.index.result.now c.self.view_is c.self.invariant c.requires
    c.index.ensures in
    let block = c.index.result.now in
    let words : c.split_at.result.1.now ≡ drop block.start n.words.items = c.split_at.ensures.back ∙ ap (drop block.start) c.deref.ensures.value in
    c.read.ensures ∙ ap (λ ws. get_or (numbers_in_lanes block.width ws) (c.args.index % 128) 0) words ∙ r.number_is
