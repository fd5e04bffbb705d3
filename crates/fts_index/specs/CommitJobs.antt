-- What the threads that run a commit's jobs return.
use Rattle.std.specs.Prelude.{◌≡◌, ℕ, ◌<◌, List, length, Result, slice_index_or}
use Rattle.fts_base.specs.declared.refusal.Refusal.{Refusal}
use Rattle.fts_snapshots.specs.Entries.{EntryValue}
use Rattle.fts_snapshots.specs.Jobs.{Answers}
use Rattle.fts_snapshots.specs.declared.commits.commit_job.CommitJob.{CommitJob}

-- there is one answer for each job, in their order
pub record AreAnswers (jobs : List CommitJob) (results : List (Result EntryValue Refusal)) : Type 0 where
  pub count : length results ≡ length jobs
  pub each : (i : ℕ) (job : CommitJob) (result : Result EntryValue Refusal) → i < length jobs →
      Answers (slice_index_or jobs i job) (slice_index_or results i result)
