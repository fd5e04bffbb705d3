use Rattle.std.proofs.Common.{take}
use Rattle.fts_pack.specs.column.OffsetArray.{in_lanes}
use Rattle.fts_pack.proofs.DigitsLemmas.{IsWritten}
use Rattle.fts_pack.proofs.column.column.packed_offsets.Given as goal

abbrev pub invariant-loop-doc : goal.invariant-loop-doc
invariant-loop-doc l =
    IsWritten 64 l.width (take l.doc (take l.count (in_lanes l.lanes))) l.words.items l.pending l.filled
