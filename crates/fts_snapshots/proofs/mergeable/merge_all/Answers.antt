-- What is left of the proof of `mergeable::merge_all`.
use Rattle.std.proofs.Common.{◌≤◌, inl, length, sym, ap, subst, ◌∙◌, arith}
use Rattle.std.proofs.lemmas.Result.{err_from_is_err_and}
use Rattle.fts_snapshots.specs.LateMerges.{after_merge}
use Rattle.fts_snapshots.specs.MergedSegments.{ids_of}
use Rattle.fts_snapshots.specs.Snapshots.{IsSnapshot, SnapshotValue, content_of, merge_fault}
use Rattle.fts_snapshots.proofs.ChangeLemmas.{merges_any}
use Rattle.fts_snapshots.proofs.CountLemmas.{memory_alone, refused_by}
use Rattle.fts_snapshots.proofs.SourceLemmas.{unless_ok}
use Rattle.fts_snapshots.proofs.WholeLemmas.{whole_fine, whole_one}
use Rattle.fts_snapshots.proofs.mergeable.merge_all.Goals as goal

pub returns-in_err-merge_segments-clause-refused : goal.returns-in_err-merge_segments-clause-refused
returns-in_err-merge_segments-clause-refused g c =
    let s = g.S.Mergeable.left c.args.index.now in
    let ids = c.deref.result.now in
    let last = c.last_commit-snapshot.ensures in
    let is = subst IsSnapshot last c.entries.ensures.snapshot in
    let few = subst (λ (t : SnapshotValue). length (content_of t) ≤ 1048576) last (omega (arith, c.in_ok-live.ensures.count, c.in_ok-live.ensures.few)) in
    let named = c.deref.ensures.value ∙ c.in_ok-live.ensures.ids ∙ ap (λ (t : SnapshotValue). ids_of t.entries) last in
    let fine = whole_fine s c.entries.result.now c.is_empty.result ids is (c.entries.ensures.entries ∙ ap (λ (t : SnapshotValue). t.entries) last)
    c.is_empty.ensures c.if-is_empty.false few c.requires named in
    let p = err_from_is_err_and c.from_residual-in_err-merge_segments.result c.from_residual-in_err-merge_segments.ensures.1 in
    rw (p.1, p.2) (inl (memory_alone (merge_fault ids s) _ fine (refused_by (merge_fault ids s) (after_merge ids s) _
    c.in_err-merge_segments.ensures.snapshot)))

pub returns-clause-merges : goal.returns-clause-merges
returns-clause-merges g c =
    let s = g.S.Mergeable.left c.args.index.now in
    let ids = c.deref.result.now in
    let new = g.S.Mergeable.left c.merge_segments.new.self in
    let both = unless_ok (merge_fault ids s) (after_merge ids s) new c.in_ok-merge_segments.ensures.snapshot in
    merges_any ids s new both.1 both.0 c.in_ok-merge_segments.ensures.content

pub returns-clause-one : goal.returns-clause-one
returns-clause-one g c =
    let s = g.S.Mergeable.left c.args.index.now in
    let ids = c.deref.result.now in
    let new = g.S.Mergeable.left c.merge_segments.new.self in
    let named = c.deref.ensures.value ∙ c.in_ok-live.ensures.ids ∙ ap (λ (t : SnapshotValue). ids_of t.entries) c.last_commit-snapshot.ensures in
    let both = unless_ok (merge_fault ids s) (after_merge ids s) new c.in_ok-merge_segments.ensures.snapshot in
    subst (λ (t : SnapshotValue). length t.entries ≤ 1) (sym both.1) (whole_one s ids named both.0)
