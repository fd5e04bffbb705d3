use Rattle.std.proofs.Common.{ap, arith, length}
use Rattle.fts_pack.specs.Block.{block_numbers}
use Rattle.fts_pack.proofs.LaneLemmas.{length-words_in_lanes}
use Rattle.fts_pack.proofs.block.Block.unpack.Goals as goal

pub unpack-requires-clause-room : goal.unpack-requires-clause-room
unpack-requires-clause-room c =
    let block = c.self.inside in
    let room = ap length c.self.invariant.words_are in
    omega (arith, room, length-words_in_lanes block.width (block_numbers block.count block.width block.words.items), ap length c.deref.ensures.value)
