-- The invariant of the loop of `commits::commit_job::commit_jobs`.
use Rattle.std.proofs.Common.{◌≡◌, ◌++◌, map}
use Rattle.fts_snapshots.specs.Commits.{struck}
use Rattle.fts_snapshots.specs.EntryLists.{entries_ahead}
use Rattle.fts_snapshots.specs.Jobs.{entry_of}
use Rattle.fts_snapshots.proofs.commits.commit_job.commit_jobs.Given as goal

abbrev pub invariant-loop-entry : goal.invariant-loop-entry
invariant-loop-entry l =
    (goal.iterator-loop-entry).can_next l.entry-iterator × (goal.iterator-loop-entry).is_finite l.entry-iterator
    × (map entry_of l.jobs.items ++ map (struck l.ops) (entries_ahead l.entry-iterator) ≡ map (struck l.ops) (entries_ahead l.fn.entries))
