-- What is left of the proof of `writer::Writer::end_merge`.
use Rattle.std.proofs.Common.{◌≡◌, ◌⊎◌, inl, inr, ⊎_elim, None, Result, Ok, Err, sym, ap, subst, ◌∙◌}
use Rattle.std.specs.Prelude.{OnOk, OnErr}
use Rattle.fts_index.specs.Publications.{FrontValue, published}
use Rattle.fts_snapshots.specs.Snapshots.{SnapshotValue}
use Rattle.fts_snapshots.specs.Successors.{Follows}
use Rattle.fts_snapshots.specs.LateMerges.{end_fault, after_end}
use Rattle.fts_index.specs.Writers.{WriterValue, late_fault}
use Rattle.fts_snapshots.proofs.LateBitLemmas.{fault_of_err}
use Rattle.fts_snapshots.proofs.FollowLemmas.{follows_end}
use Rattle.fts_snapshots.specs.Successors.{follows_itself}
use Rattle.fts_snapshots.proofs.SourceLemmas.{unless_ok}
use Rattle.fts_index.proofs.writer.Writer.end_merge.Goals as goal

on_ok : {X E : Type 0} (P : Type 0) (r : Result X E) → P → OnOk r P
on_ok P (Ok x) p = p
on_ok P (Err e) p = tt

either : {X E : Type 0} (P Q : Type 0) (r : Result X E) → OnOk r P → OnErr r Q → P ⊎ Q
either P Q (Ok x) p q = inl p
either P Q (Err e) p q = inr q

pub returns-in-Err-clause-refused : goal.returns-in-Err-clause-refused
returns-in-Err-clause-refused g c =
    let m = c.args.merged in
    let s = c.snapshot.result.now in
    let same = c.snapshot.ensures.snapshot ∙ ap (λ (w : WriterValue). w.front.snapshot) c.self.view_is in
    ⊎_elim (λ memory. inl memory)
    (λ refused. inr (ap (λ (s : SnapshotValue). end_fault s.next_id m s.entries) (sym same) ∙ fault_of_err (end_fault s.next_id m s.entries) (after_end m s)
    c.in-Err.refusal refused))
    c.in-Err.ensures.snapshot

pub returns-clause-can : goal.returns-clause-can
returns-clause-can g c =
    let m = c.args.merged in
    let s = c.snapshot.result.now in
    let same = c.snapshot.ensures.snapshot ∙ ap (λ (w : WriterValue). w.front.snapshot) c.self.view_is in
    let none = (unless_ok (end_fault s.next_id m s.entries) (after_end m s) c.in-Ok.next c.in-Ok.ensures.snapshot).0 in
    on_ok (late_fault m c.args.self.now ≡ None) c.match-publish_again.result (ap (λ (s : SnapshotValue). end_fault s.next_id m s.entries) (sym same) ∙ none)

pub returns-clause-follows : goal.returns-clause-follows
returns-clause-follows g c =
    let m = c.args.merged in
    let s = c.snapshot.result.now in
    let before = c.self.inside.publisher in
    let same = c.snapshot.ensures.snapshot ∙ ap (λ (w : WriterValue). w.front.snapshot) c.self.view_is in
    let next = (unless_ok (end_fault s.next_id m s.entries) (after_end m s) c.in-Ok.next c.in-Ok.ensures.snapshot).1 in
    let old = c.args.self.now.front.snapshot in
    ⊎_elim
    (λ ended. subst (Follows old) (sym (ap (λ (f : FrontValue). f.snapshot) ended ∙ next ∙ ap (after_end m) same)) (follows_end old m))
    (λ stayed. subst (Follows old) (sym (ap (λ (f : FrontValue). f.snapshot) stayed ∙ ap (λ (w : WriterValue). w.front.snapshot) c.self.view_is))
    (follows_itself old))
    (either (c.publish_again.new.self ≡ published before.stamp c.in-Ok.next before) (c.publish_again.new.self ≡ before) c.publish_again.result
    c.publish_again.ensures.new c.publish_again.ensures.same)
