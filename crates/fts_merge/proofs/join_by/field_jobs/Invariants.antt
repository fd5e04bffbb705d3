use Rattle.fts_merge.specs.FieldJobs.{AreFieldJobs}
use Rattle.fts_merge.proofs.join_by.field_jobs.Given as goal

abbrev pub invariant-loop-number : goal.invariant-loop-number
invariant-loop-number l = AreFieldJobs l.joining l.number l.jobs.items
