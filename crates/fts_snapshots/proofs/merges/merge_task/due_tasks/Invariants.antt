-- The invariant of the loop of `merges::merge_task::due_tasks`.
use Rattle.std.proofs.Common.{drop, map}
use Rattle.fts_snapshots.proofs.MadeLemmas.{Begun}
use Rattle.fts_snapshots.proofs.merges.merge_task.due_tasks.Given as goal

abbrev pub invariant-loop-ids : goal.invariant-loop-ids
invariant-loop-ids l = Begun (map (λ ids. ids.items) l.candidates) (map (λ ids. ids.items) (drop l.ids-index l.candidates)) l.snapshot l.tasks.items
