-- The rest of the proof of `merges::merge_task::due_tasks`.
use Rattle.std.proofs.Common.{Global, Vec, ℕ}
use Rattle.fts_snapshots.proofs.MadeLemmas.{begun_all}
use Rattle.fts_snapshots.proofs.merges.merge_task.due_tasks.Goals as goal

pub returns : goal.returns
returns c =
    begun_all (λ (ids : Vec ℕ Global). ids.items) c.args.candidates.now c.loop-ids.ids-index c.args.snapshot.now c.loop-ids.tasks.items c.loop-ids-test.false
    c.loop-ids.invariant
