-- The results of the jobs of a commit.
use Rattle.std.specs.Prelude.{◌≡◌, List, Result, IfOk, IsOkUnless}
use Rattle.fts_model.specs.declared.operation.Op.{Op}
use Rattle.fts_model.specs.declared.operation.Stamped.{Stamped}
use Rattle.fts_base.specs.declared.refusal.Refusal.{Refusal}
use Rattle.fts_base.specs.declared.refusal.Refusal.TheVariants.{Memory}
use Rattle.fts_snapshots.specs.Entries.{EntryValue}
use Rattle.fts_snapshots.specs.Commits.{struck}
use Rattle.fts_snapshots.specs.Groups.{built}
use Rattle.fts_snapshots.specs.declared.commits.commit_job.CommitJob.{CommitJob}
use Rattle.fts_snapshots.specs.declared.commits.commit_job.Task.{Task}
use Rattle.fts_snapshots.specs.declared.commits.commit_job.Task.TheVariants.{Strike, Build}

-- the segment that a task leaves
abbrev pub entry_of_task : List (Stamped Op) → Task → EntryValue
entry_of_task ops (Strike entry) = struck ops entry.now
entry_of_task ops (Build segment) = built ops segment.id segment.builder.now

-- the segment that a job of a commit leaves
abbrev pub entry_of : CommitJob → EntryValue
entry_of job = entry_of_task job.ops.now job.task

-- a job returns the segment that it leaves, or memory ran out
abbrev pub Answers : CommitJob → Result EntryValue Refusal → Type 0
Answers job result = IfOk result (λ entry. entry ≡ entry_of job) × IsOkUnless result Memory
