-- The invariant of the loop of `merges::merge_job::sources`.
use Rattle.std.proofs.Common.{◌≡◌, map, take}
use Rattle.fts_snapshots.specs.Sources.{source_of}
use Rattle.fts_snapshots.proofs.merges.merge_job.sources.Given as goal

abbrev pub invariant-loop-entry : goal.invariant-loop-entry
invariant-loop-entry l = l.sources.items ≡ map source_of (take l.entry-index l.entries)
