-- The rest of the proof of `snapshot::Snapshot::end_merge`.
use Rattle.std.proofs.Common.{◌≡◌, ◌+◌, ◌++◌, Ok, Err, List, inl, inr, ⊎_elim, refl, sym, ap, subst, ◌∙◌}
use Rattle.fts_base.specs.Results.{ok_unless}
use Rattle.fts_snapshots.specs.Entries.{EntryValue, content}
use Rattle.fts_snapshots.specs.Commits.{numbers_fault}
use Rattle.fts_snapshots.specs.Snapshots.{SnapshotValue, IsSnapshot, IdsRise}
use Rattle.fts_snapshots.specs.Successors.{Fits}
use Rattle.fts_snapshots.specs.LateMerges.{gone_fault, end_fault, replaced, after_end}
use Rattle.fts_snapshots.proofs.LateContentLemmas.{content-ended, snapshot_after_end}
use Rattle.fts_snapshots.proofs.LateBitLemmas.{unless_err}
use Rattle.fts_snapshots.proofs.LateSchemaLemmas.{schema_ended}
use Rattle.fts_snapshots.proofs.SnapshotLemmas.{snapshot_with, same_snapshot}
use Rattle.fts_snapshots.proofs.SourceLemmas.{unless_ok, first_none, numbers_room}
use Rattle.fts_snapshots.proofs.snapshot.Snapshot.end_merge.Goals as goal

pub end_entries-requires-clause-rising : goal.end_entries-requires-clause-rising
end_entries-requires-clause-rising c = subst IdsRise (sym (c.deref.ensures.value ∙ c.in_ok-all.ensures)) c.self.invariant.ids

pub returns-in-Err-clause-snapshot : goal.returns-in-Err-clause-snapshot
returns-in-Err-clause-snapshot c =
    let inside = c.self.inside in
    let m = c.args.merged.now in
    let old = inside.entries in
    let s = snapshot_with inside.schema old inside.next_id in
    let refusal = c.in-Err.refusal in
    ⊎_elim (λ memory. inl memory)
    (λ refused.
    let outcome = subst (λ (es : List EntryValue). ok_unless (end_fault inside.next_id m es) (replaced inside.next_id m es) ≡ Err refusal) (c.deref.ensures.value ∙ c.in_ok-all.ensures)
    refused in
    inr (subst (λ (s : SnapshotValue). ok_unless (end_fault s.next_id m s.entries) (after_end m s) ≡ Err refusal) c.self.view_is
    (unless_err (end_fault inside.next_id m old) (replaced inside.next_id m old) (after_end m s) refusal outcome)))
    c.in-Err.ensures.entries

pub invariant_of-result : goal.invariant_of-result
invariant_of-result c =
    let inside = c.self.inside in
    let m = c.args.merged.now in
    let old = inside.entries in
    let s = snapshot_with inside.schema old inside.next_id in
    let entries = c.in-Ok.entries.items in
    let outcome = subst (λ (es : List EntryValue). ok_unless (end_fault inside.next_id m es) (replaced inside.next_id m es) ≡ Ok entries) (c.deref.ensures.value ∙ c.in_ok-all.ensures)
    c.in-Ok.ensures.entries in
    let made = unless_ok (end_fault inside.next_id m old) (replaced inside.next_id m old) entries outcome in
    let after : c.in_ok-entries.entries ≡ entries = c.in_ok-entries.ensures ∙ ap (λ es. es ++ entries) c.new.ensures in
    let none = first_none (gone_fault m old) (numbers_fault (inside.next_id + 1)) made.0 in
    let fits = subst (Fits m) (sym c.self.view_is) c.requires in
    let is = c.in-Ok.ensures.each in
    subst IsSnapshot
    (sym (same_snapshot c.in_ok-schema.schema inside.schema c.in_ok-entries.entries (replaced inside.next_id m old) (inside.next_id + 1) (inside.next_id + 1)
    c.in_ok-schema.ensures.cases (after ∙ made.1) refl))
    (snapshot_after_end m s is c.self.invariant fits (schema_ended m s is c.self.invariant fits none.0) (numbers_room (inside.next_id + 1) none.1))

pub returns-clause-snapshot : goal.returns-clause-snapshot
returns-clause-snapshot c =
    let inside = c.self.inside in
    let m = c.args.merged.now in
    let old = inside.entries in
    let s = snapshot_with inside.schema old inside.next_id in
    let entries = c.in-Ok.entries.items in
    let outcome = subst (λ (es : List EntryValue). ok_unless (end_fault inside.next_id m es) (replaced inside.next_id m es) ≡ Ok entries) (c.deref.ensures.value ∙ c.in_ok-all.ensures)
    c.in-Ok.ensures.entries in
    let made = unless_ok (end_fault inside.next_id m old) (replaced inside.next_id m old) entries outcome in
    let after : c.in_ok-entries.entries ≡ entries = c.in_ok-entries.ensures ∙ ap (λ es. es ++ entries) c.new.ensures in
    let new = snapshot_with c.in_ok-schema.schema c.in_ok-entries.entries (inside.next_id + 1) in
    subst (λ (s : SnapshotValue). ok_unless (end_fault s.next_id m s.entries) (after_end m s) ≡ Ok new) c.self.view_is
    (ap (λ fault. ok_unless fault (after_end m s)) made.0
    ∙ ap Ok (sym (same_snapshot c.in_ok-schema.schema inside.schema c.in_ok-entries.entries (replaced inside.next_id m old) (inside.next_id + 1) (inside.next_id + 1)
    c.in_ok-schema.ensures.cases (after ∙ made.1) refl)))

pub returns-clause-content : goal.returns-clause-content
returns-clause-content c =
    let inside = c.self.inside in
    let m = c.args.merged.now in
    let old = inside.entries in
    let s = snapshot_with inside.schema old inside.next_id in
    let entries = c.in-Ok.entries.items in
    let outcome = subst (λ (es : List EntryValue). ok_unless (end_fault inside.next_id m es) (replaced inside.next_id m es) ≡ Ok entries) (c.deref.ensures.value ∙ c.in_ok-all.ensures)
    c.in-Ok.ensures.entries in
    let made = unless_ok (end_fault inside.next_id m old) (replaced inside.next_id m old) entries outcome in
    let after : c.in_ok-entries.entries ≡ entries = c.in_ok-entries.ensures ∙ ap (λ es. es ++ entries) c.new.ensures in
    let fits = subst (Fits m) (sym c.self.view_is) c.requires in
    ap content (after ∙ made.1) ∙ content-ended m s c.in-Ok.ensures.each c.self.invariant fits ∙ ap (λ (s : SnapshotValue). content s.entries) c.self.view_is
