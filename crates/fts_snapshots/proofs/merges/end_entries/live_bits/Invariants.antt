-- The invariant of the loop of `merges::end_entries::live_bits`.
use Rattle.std.proofs.Common.{◌≡◌}
use Rattle.fts_snapshots.proofs.LateBitLemmas.{marked, bit_of}
use Rattle.fts_snapshots.proofs.merges.end_entries.live_bits.Given as goal

abbrev pub invariant-loop-document : goal.invariant-loop-document
invariant-loop-document l = l.live ≡ marked (bit_of l.lookup l.segment.ids) l.segment.merged.origins l.document
