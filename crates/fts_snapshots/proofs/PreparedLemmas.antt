-- Prepared commits, and their finish.
use Rattle.std.proofs.Common.{◌≡◌, ◌<◌, ◌+◌, ◌++◌, ◌^◌, inl, ℕ, true, Option, None, Ok, Err, List, Result, IfOk, IfSome, IsOkUnless}
use Rattle.std.proofs.Common.{length, sym, ap, subst, ◌∙◌, arith}
use Rattle.std.proofs.lemmas.List.{length-map}
use Rattle.std.proofs.lemmas.List.Elements.{recursion_from_All}
use Rattle.fts_base.specs.declared.refusal.Refusal.{Refusal}
use Rattle.fts_base.specs.declared.refusal.Refusal.TheVariants.{Memory}
use Rattle.fts_base.specs.Results.{ok_unless}
use Rattle.fts_model.specs.declared.cut.Cut.{Cut}
use Rattle.fts_model.specs.declared.schema.Field.{Field}
use Rattle.fts_model.specs.declared.operation.Op.{Op}
use Rattle.fts_model.specs.declared.operation.Stamped.{Stamped}
use Rattle.fts_model.specs.Operations.{alive, added, adds}
use Rattle.fts_segment.specs.Segments.{BuilderValue}
use Rattle.fts_snapshots.specs.Commits.{new_segments, spared_by}
use Rattle.fts_snapshots.specs.Cuts.{groups_of}
use Rattle.fts_snapshots.specs.Entries.{EntryValue, IsEntry, has_live}
use Rattle.fts_snapshots.specs.Groups.{documents_in}
use Rattle.fts_snapshots.specs.PreparedCommits.{IsPrepared, PreparedValue, entries_kept, prepared}
use Rattle.fts_snapshots.specs.Snapshots.{GivesCommit, IsSnapshot, SnapshotValue, after_commit, commit_fault, content_of}
use Rattle.fts_snapshots.proofs.CommitLemmas.{content-committed}
use Rattle.fts_snapshots.proofs.SnapshotLemmas.{snapshot_after_commit, same_snapshot, snapshot_with, rise_behind}
use Rattle.fts_snapshots.proofs.SourceLemmas.{unless_ok}
use Rattle.fts_snapshots.proofs.SparedLemmas.{few_segments, spared_and_committed}

-- the snapshot that a prepared commit leaves
abbrev pub left : PreparedValue → SnapshotValue
left p = after_commit p.cut p.batch p.snapshot

pub left_is : (p : PreparedValue) → IsPrepared p → IsSnapshot (left p)
left_is p i = snapshot_after_commit p.cut p.batch p.snapshot i.cut i.snapshot (rise_behind (content_of p.snapshot) p.batch i.snapshot.stamps i.behind) i.room

pub content-left : (p : PreparedValue) → IsPrepared p → content_of (left p) ≡ alive p.snapshot.schema (adds (content_of p.snapshot) ++ p.batch)
content-left p i =
    let s = p.snapshot in
    content-committed p.cut s.schema p.batch s.next_id s.entries (recursion_from_All (λ (e : EntryValue). e.segment.schema ≡ s.schema) s.entries
    i.snapshot.schemas)
    (rise_behind (content_of s) p.batch i.snapshot.stamps i.behind)

-- the segments of the snapshot are those that the batch can't change, and then those that its jobs left
pub all_left : (p : PreparedValue) → IsPrepared p → spared_by p.batch p.snapshot.entries ++ entries_kept p ≡ (left p).entries
all_left p i =
    let s = p.snapshot in
    spared_and_committed p.cut s.schema p.batch s.next_id s.entries (recursion_from_All IsEntry s.entries i.snapshot.each)
    (recursion_from_All (λ (e : EntryValue). has_live e ≡ true) s.entries i.snapshot.live)

pub few_left : (p : PreparedValue) → IsPrepared p → length (left p).entries < 2 ^ 64
few_left p i = omega (arith, few_segments (left p) (left_is p i), i.room)

-- the finished snapshot has these segments
pub finished : (p : PreparedValue) → IsPrepared p → (schema : List Field) (before jobs all : List EntryValue) (groups : List BuilderValue) (next : ℕ) →
    schema ≡ p.snapshot.schema → before ≡ p.snapshot.entries → jobs ≡ entries_kept p → all ≡ spared_by p.batch before ++ jobs →
    documents_in groups ≡ groups_of p.cut (added p.batch) → next ≡ p.snapshot.next_id + length groups → snapshot_with schema all next ≡ left p
finished p i schema before jobs all groups next same old kept made built number =
    let s = p.snapshot in
    same_snapshot schema s.schema all (left p).entries next (s.next_id + new_segments p.cut p.batch) same
    (made ∙ ap (λ es. spared_by p.batch es ++ jobs) old ∙ ap (λ es. spared_by p.batch s.entries ++ es) kept ∙ all_left p i)
    (omega (arith, number, ap length built, length-map groups (λ (b : BuilderValue). b.segment.documents)))

-- anything holds of a fault that isn't there
pub nothing_faulty : {X : Type 0} (fault : Option X) (P : X → Type 0) → fault ≡ None → IfSome fault P
nothing_faulty fault P e = subst (λ f. IfSome f P) (sym e) tt

-- finishing a prepared commit gives the result of the commit
pub gives_commit : (cut : Cut) (batch : List (Stamped Op)) (s : SnapshotValue) (p : PreparedValue) (r : Result SnapshotValue Refusal) →
    ok_unless (commit_fault cut batch s) (prepared cut batch s) ≡ Ok p →
    IfOk r (λ new. new ≡ left p) → IfOk r (λ new. content_of new ≡ alive p.snapshot.schema (adds (content_of p.snapshot) ++ p.batch)) → IsOkUnless r Memory →
    GivesCommit cut batch s r
gives_commit cut batch s p (Ok new) is same holds memory =
    let both = unless_ok (commit_fault cut batch s) (prepared cut batch s) p is in
    record {
      snapshot = ap (λ f. ok_unless f (after_commit cut batch s)) both.0 ∙ ap Ok (sym (same ∙ ap left both.1));
      content = holds ∙ ap (λ (q : PreparedValue). alive q.snapshot.schema (adds (content_of q.snapshot) ++ q.batch)) both.1;
      fault = nothing_faulty (commit_fault cut batch s) (λ refusal. let made : Result SnapshotValue Refusal = Ok new in made ≡ Err refusal) both.0;
    }
gives_commit cut batch s p (Err e) is same holds memory =
    let both = unless_ok (commit_fault cut batch s) (prepared cut batch s) p is in
    record {
      snapshot = inl memory;
      content = tt;
      fault = nothing_faulty (commit_fault cut batch s) (λ refusal. let made : Result SnapshotValue Refusal = Err e in made ≡ Err refusal) both.0;
    }
