-- There is a slot for each job so far.
use Rattle.std.proofs.Common.{◌≡◌, map, take}
use Rattle.fts_pool.proofs.run.lent_slots.Given as goal

abbrev pub invariant-loop-job : goal.invariant-loop-job
invariant-loop-job g l = map (λ slot. slot.job.now) l.slots.items ≡ take l.job-index l.jobs
