-- The invariant of the loop of `commits::batch_jobs::entries_in_turn`.
use Rattle.std.proofs.Common.{◌≡◌, map, filter, take}
use Rattle.fts_snapshots.specs.Entries.{has_live}
use Rattle.fts_snapshots.specs.Jobs.{entry_of}
use Rattle.fts_snapshots.proofs.commits.batch_jobs.entries_in_turn.Given as goal

abbrev pub invariant-loop-job : goal.invariant-loop-job
invariant-loop-job l = l.entries.items ≡ filter has_live (map entry_of (take l.job-index l.jobs))
