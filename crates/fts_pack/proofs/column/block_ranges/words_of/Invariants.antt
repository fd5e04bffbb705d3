use Rattle.fts_pack.proofs.BlocksLemmas.{AreFirstEnds}
use Rattle.fts_pack.proofs.column.block_ranges.words_of.Given as goal

abbrev pub invariant-loop-block : goal.invariant-loop-block
invariant-loop-block l = AreFirstEnds l.least l.values l.block l.words.items
