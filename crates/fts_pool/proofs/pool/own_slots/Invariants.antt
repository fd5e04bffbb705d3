-- The jobs are those of the slots so far, and then those that are left.
use Rattle.std.proofs.Common.{◌≡◌, ◌++◌, map}
use Rattle.std.specs.Vec.Iter.{into_iter_items}
use Rattle.fts_pool.proofs.pool.own_slots.Given as goal

abbrev pub invariant-loop-job : goal.invariant-loop-job
invariant-loop-job g l = l.fn.jobs.items ≡ map (λ slot. slot.job) l.slots.items ++ into_iter_items l.job-iterator
