-- The rest of the proof of `merges::made`.
use Rattle.std.proofs.Common.{◌≡◌, Global, Vec, ℕ, List, [], ◌∷◌, Result, length, get_or, map, subst, sym, arith}
use Rattle.std.specs.List.{AllZip}
use Rattle.std.proofs.lemmas.Result.{IfOk-weaker}
use Rattle.fts_base.specs.declared.refusal.Refusal.{Refusal}
use Rattle.fts_snapshots.specs.Candidates.{due}
use Rattle.fts_snapshots.specs.MadeMerges.{AreMadeFor, IsTaskFor, Makes}
use Rattle.fts_snapshots.specs.MergedSegments.{MergedSegmentValue}
use Rattle.fts_snapshots.specs.Snapshots.{SnapshotValue}
use Rattle.fts_snapshots.specs.declared.merges.merge_task.MergeTask.{MergeTask}
use Rattle.fts_snapshots.proofs.MadeLemmas.{made_by_tasks}
use Rattle.fts_index.proofs.merges.made.Goals as goal

-- the result of the only task is the segment for the only candidate
made_alone : (s : SnapshotValue) (candidates : List (List ℕ)) (tasks : List MergeTask) (task : MergeTask) (result : Result MergedSegmentValue Refusal) →
    AllZip (IsTaskFor s) candidates tasks → length tasks ≡ 1 → task ≡ get_or tasks 0 task → Makes task result → AreMadeFor candidates s (result ∷ [])
made_alone s candidates [] task result are one is makes = absurd (omega (arith, one))
made_alone s candidates (first ∷ second ∷ tasks) task result are one is makes = absurd (omega (arith, one))
made_alone s candidates (only ∷ []) task result are one is makes =
    made_by_tasks s candidates (only ∷ []) (result ∷ []) are (subst (λ t. Makes t result) is makes, tt)

pub returns-then-len-ne1 : goal.returns-then-len-ne1
returns-then-len-ne1 g c =
    let candidates = due (map (λ (ids : Vec ℕ Global). ids.items) c.args.candidates.now) in
    let tasks = subst (λ ts. AllZip (IsTaskFor c.args.snapshot.now) candidates ts) (sym c.deref.ensures.value) c.in_ok-tasks.ensures in
    IfOk-weaker c.run_all.result _ _ (λ made zip. made_by_tasks c.args.snapshot.now candidates c.deref.result.now made.items tasks zip) c.run_all.ensures.ok

pub returns : goal.returns
returns g c =
    let candidates = due (map (λ (ids : Vec ℕ Global). ids.items) c.args.candidates.now) in
    let s = c.args.snapshot.now in
    subst (AreMadeFor candidates s) (sym c.in_ok-vec.ensures.items)
    (made_alone s candidates c.in_ok-tasks.tasks.items c.index.result.now c.run_by.result c.in_ok-tasks.ensures
    (omega (arith, c.if-len-ne1.false, c.len.ensures, c.in_ok-tasks.tasks.ok)) c.index.ensures c.run_by.ensures)
