-- What stays true in the loop of `commit::assemble`.
use Rattle.std.proofs.Common.{◌≡◌, List, length, map, filter, take}
use Rattle.fts_snapshots.specs.Entries.{has_live}
use Rattle.fts_snapshots.specs.Jobs.{entry_of}
use Rattle.fts_index.specs.CommitJobs.{AreAnswers}
use Rattle.fts_snapshots.specs.declared.commits.commit_job.CommitJob.{CommitJob}
use Rattle.fts_index.proofs.commit.assemble.Given as goal

abbrev pub invariant-loop-answer : goal.invariant-loop-answer
invariant-loop-answer l = (jobs : List CommitJob) → AreAnswers jobs l.fn.answers.items →
    l.entries.items ≡ filter has_live (map entry_of (take (length l.yielded) jobs))
