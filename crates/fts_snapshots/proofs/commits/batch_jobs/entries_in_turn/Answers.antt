-- The rest of the proof of `commits::batch_jobs::entries_in_turn`.
use Rattle.std.proofs.Common.{◌∙◌}
use Rattle.fts_snapshots.proofs.JobLemmas.{kept_in_turn}
use Rattle.fts_snapshots.proofs.commits.batch_jobs.entries_in_turn.Goals as goal

pub loop-job-preserved : goal.loop-job-preserved
loop-job-preserved c =
    c.in_ok-push_live.ensures
    ∙ kept_in_turn c.args.jobs.now c.loop-job.job-index c.job-item.result c.job-item.result c.in_ok-entry.entry c.loop-job.entries.items
    c.loop-job-test.true c.job-item.is c.in_ok-entry.ensures.0 c.loop-job.invariant
