-- What is left of the proof of `writer::Writer::merge_all`.
use Rattle.std.proofs.Common.{◌≤◌, inl, length, sym, ap, subst, ◌∙◌, arith}
use Rattle.std.proofs.lemmas.Result.{err_from_is_err_and}
use Rattle.fts_snapshots.specs.MergedSegments.{ids_of}
use Rattle.fts_snapshots.specs.Snapshots.{IsSnapshot, SnapshotValue, content_of, merge_fault}
use Rattle.fts_snapshots.proofs.ChangeLemmas.{merges_any}
use Rattle.fts_snapshots.proofs.CountLemmas.{memory_alone}
use Rattle.fts_snapshots.proofs.WholeLemmas.{whole_fine, whole_one}
use Rattle.fts_index.specs.Writers.{WriterValue}
use Rattle.fts_index.proofs.writer.Writer.merge_all.Goals as goal

pub returns-in_err-merge_by-clause-refused : goal.returns-in_err-merge_by-clause-refused
returns-in_err-merge_by-clause-refused g c =
    let s = c.args.self.now.front.snapshot in
    let ids = c.deref.result.now in
    let last = c.snapshot-snapshot.ensures.snapshot ∙ ap (λ (w : WriterValue). w.front.snapshot) c.self.view_is in
    let is = subst IsSnapshot last c.entries.ensures.snapshot in
    let few = subst (λ (t : SnapshotValue). length (content_of t) ≤ 1048576) last (omega (arith, c.in_ok-live.ensures.count, c.in_ok-live.ensures.few)) in
    let named = c.deref.ensures.value ∙ c.in_ok-live.ensures.ids ∙ ap (λ (t : SnapshotValue). ids_of t.entries) last in
    let fine = whole_fine s c.entries.result.now c.is_empty.result ids is (c.entries.ensures.entries ∙ ap (λ (t : SnapshotValue). t.entries) last)
    c.is_empty.ensures c.if-is_empty.false few c.requires.room named in
    let p = err_from_is_err_and c.from_residual-in_err-merge_by.result c.from_residual-in_err-merge_by.ensures.1 in
    rw (p.1, p.2) (inl (memory_alone (merge_fault ids s) _ fine c.in_err-merge_by.ensures.refused))

pub returns-clause-merges : goal.returns-clause-merges
returns-clause-merges g c =
    let s = c.args.self.now.front.snapshot in
    merges_any c.deref.result.now s c.merge_by.new.self.front.snapshot (ap (λ (w : WriterValue). w.front.snapshot) c.in_ok-merge_by.ensures.writer)
    c.in_ok-merge_by.ensures.refused c.in_ok-merge_by.ensures.content

pub returns-clause-one : goal.returns-clause-one
returns-clause-one g c =
    let s = c.args.self.now.front.snapshot in
    let ids = c.deref.result.now in
    let last = c.snapshot-snapshot.ensures.snapshot ∙ ap (λ (w : WriterValue). w.front.snapshot) c.self.view_is in
    let named = c.deref.ensures.value ∙ c.in_ok-live.ensures.ids ∙ ap (λ (t : SnapshotValue). ids_of t.entries) last in
    subst (λ (t : SnapshotValue). length t.entries ≤ 1) (sym (ap (λ (w : WriterValue). w.front.snapshot) c.in_ok-merge_by.ensures.writer))
    (whole_one s ids named c.in_ok-merge_by.ensures.refused)
