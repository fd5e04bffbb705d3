-- The invariant of the loop of `merges::candidates::segment_sizes`.
use Rattle.std.proofs.Common.{◌≡◌, map, take}
use Rattle.fts_snapshots.specs.Infos.{size_of}
use Rattle.fts_snapshots.proofs.merges.candidates.segment_sizes.Given as goal

abbrev pub invariant-loop-entry : goal.invariant-loop-entry
invariant-loop-entry l = l.sizes.items ≡ map size_of (take l.entry-index l.entries)
