-- The rest of the proof of `Snapshot::plan_by`.
use Rattle.std.proofs.Common.{sym, subst, ◌∙◌}
use Rattle.std.proofs.lemmas.Result.{IfOk-weaker}
use Rattle.fts_snapshots.specs.Infos.{candidate_ids_by}
use Rattle.fts_snapshots.specs.MadeMerges.{AreApart}
use Rattle.fts_snapshots.proofs.MadeLemmas.{candidates_apart}
use Rattle.fts_snapshots.proofs.SnapshotLemmas.{snapshot_with}
use Rattle.fts_snapshots.proofs.snapshot.Snapshot.plan_by.Goals as goal

pub returns-clause-apart : goal.returns-clause-apart
returns-clause-apart c =
    let inside = c.self.inside in
    let policy = c.args.policy.now in
    let s = snapshot_with inside.schema inside.entries inside.next_id in
    let apart = subst (λ es. AreApart (candidate_ids_by policy es)) (sym (c.deref.ensures.value ∙ c.in_ok-entries.ensures))
    (candidates_apart policy s c.self.invariant) in
    IfOk-weaker c.candidates_by.result _ _ (λ found is. subst AreApart (sym is) apart) c.candidates_by.ensures.candidates
