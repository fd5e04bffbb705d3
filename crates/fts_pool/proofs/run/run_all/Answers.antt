-- The jobs of the slots are those that the caller lent.
use Rattle.std.proofs.Common.{map, ap, ◌∙◌}
use Rattle.fts_pool.proofs.ZipLemmas.{of_jobs}
use Rattle.fts_pool.proofs.run.run_all.Goals as goal

pub returns-clause-ok : goal.returns-clause-ok
returns-clause-ok g c =
    of_jobs (λ slot. slot.job.now) g.J.Job.gives c.deref.result.now c.results_of.result.items c.args.jobs.now c.results_of.ensures
    (ap (map (λ slot. slot.job.now)) (c.deref.ensures.value ∙ ap (λ slots. slots.items) c.in_ok-call.ensures) ∙ c.in_ok-slots.ensures)
