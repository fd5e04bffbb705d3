use Rattle.std.proofs.Common.{drop, take}
use Rattle.fts_segment.proofs.NumberLemmas.{AreGrouped}
use Rattle.fts_segment.proofs.number_index.grouped.Given as goal

abbrev pub invariant-loop-index : goal.invariant-loop-index
invariant-loop-index l = AreGrouped l.pairs (take l.index l.pairs) (drop l.index l.pairs) l.numbers.items l.lists l.docs.items
