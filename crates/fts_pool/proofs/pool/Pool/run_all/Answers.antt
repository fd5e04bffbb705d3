-- The jobs of the slots are those that were passed.
use Rattle.std.proofs.Common.{map, ap, ◌∙◌}
use Rattle.fts_pool.proofs.ZipLemmas.{of_jobs}
use Rattle.fts_pool.proofs.pool.Pool.run_all.Goals as goal

pub returns-clause-ok : goal.returns-clause-ok
returns-clause-ok g c =
    of_jobs (λ slot. slot.job) g.J.Job.gives c.deref-4.result.now c.results_of.result.items c.args.jobs.items c.results_of.ensures
    (ap (map (λ slot. slot.job)) (c.deref-4.ensures.value ∙ (ap (λ call. call.slots.items) (c.deref-3.ensures ∙ c.in_ok-call-2.ensures.ok)
    ∙ ap (λ slots. slots.items) c.in_ok-call.ensures)) ∙ c.in_ok-slots.ensures)
