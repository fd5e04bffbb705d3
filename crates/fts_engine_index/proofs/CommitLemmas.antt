-- A commit of a writer, as an engine sees it.
use Rattle.std.proofs.Common.{◌≡◌, ◌+◌, ◌^◌, ◌≤◌, true, cond, None, Some, List, ◌++◌, length, sym, ap, subst, ◌∙◌, arith}
use Rattle.fts_model.specs.declared.operation.Op.{Op}
use Rattle.fts_model.specs.declared.operation.Stamped.{Stamped}
use Rattle.fts_base.specs.declared.refusal.Refusal.TheVariants.{StaleBatch}
use Rattle.fts_model.specs.Operations.{alive, adds}
use Rattle.fts_base.specs.Results.{first_of}
use Rattle.fts_model.specs.declared.cut.Cut.{Cut}
use Rattle.fts_snapshots.specs.Changes.{Commits}
use Rattle.fts_snapshots.specs.Commits.{misfit}
use Rattle.fts_snapshots.specs.Snapshots.{content_of, commit_fault}
use Rattle.fts_snapshots.proofs.ChangeLemmas.{commits_made}
use Rattle.fts_snapshots.proofs.CountLemmas.{no_commit_fault}
use Rattle.fts_rounds.specs.Rounds.{Gathered}
use Rattle.fts_index.specs.Publications.{FrontValue}
use Rattle.fts_index.specs.Writers.{WriterValue, with_commit, batch_fault, is_of}

-- the commit of a batch is one of its operations
pub commits_batch : (cut : Cut) (batch : Gathered) (ops : List (Stamped Op)) (old mid new : WriterValue) → mid.front ≡ old.front →
    new ≡ with_commit cut batch mid → batch.ops ≡ ops →
    content_of new.front.snapshot ≡ alive mid.front.snapshot.schema (adds (content_of mid.front.snapshot) ++ batch.ops) →
    Commits ops old.front.snapshot new.front.snapshot
commits_batch cut batch ops old mid new same is same_ops content =
    subst (λ (f : FrontValue). Commits ops f.snapshot new.front.snapshot) same
    (subst (λ os. Commits os mid.front.snapshot new.front.snapshot) same_ops
    (commits_made cut batch.ops mid.front.snapshot new.front.snapshot (ap (λ (w : WriterValue). w.front.snapshot) is) content))

-- a batch of the open round whose operations fit has no fault, if there are numbers left
pub no_batch_fault : (cut : Cut) (batch : Gathered) (ops : List (Stamped Op)) (old mid : WriterValue) → mid.front ≡ old.front → batch.ops ≡ ops →
    is_of mid.round batch ≡ true →
    misfit old.front.snapshot.schema ops ≡ None → old.front.snapshot.next_id + length ops ≤ 2 ^ 62 → batch_fault cut batch mid ≡ None
no_batch_fault cut batch ops old mid same same_ops is fit room =
    let next = mid.front.snapshot.next_id in
    let counted : next + length batch.ops ≤ 2 ^ 62 =
    subst (λ os. next + length os ≤ 2 ^ 62) (sym same_ops) (subst (λ f. f.snapshot.next_id + length ops ≤ 2 ^ 62) (sym same) room) in
    let fits : misfit mid.front.snapshot.schema batch.ops ≡ None =
    subst (λ os. misfit mid.front.snapshot.schema os ≡ None) (sym same_ops) (subst (λ f. misfit f.snapshot.schema ops ≡ None) (sym same) fit) in
    ap (λ b. first_of (cond b None (Some StaleBatch)) (first_of (misfit mid.front.snapshot.schema batch.ops) (commit_fault cut batch.ops mid.front.snapshot)))
    is
    ∙ ap (λ m. first_of m (commit_fault cut batch.ops mid.front.snapshot)) fits
    ∙ no_commit_fault cut batch.ops mid.front.snapshot counted
