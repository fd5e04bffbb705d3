use Rattle.fts_pack.proofs.NumbersLemmas.{AreBuilt}
use Rattle.fts_pack.proofs.packed_numbers.PackedNumbers.packed.Given as goal

abbrev pub invariant-loop-block : goal.invariant-loop-block
invariant-loop-block l = AreBuilt l.numbers l.block l.blocks.items l.words.items
