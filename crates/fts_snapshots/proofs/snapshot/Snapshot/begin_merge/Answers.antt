-- The rest of the proof of `snapshot::Snapshot::begin_merge`.
use Rattle.std.proofs.Common.{◌≡◌, Ok, List, sym, ap, subst, ◌∙◌}
use Rattle.fts_base.specs.Results.{ok_unless}
use Rattle.fts_snapshots.specs.Entries.{EntryValue}
use Rattle.fts_snapshots.specs.Merges.{entries_at, names_fault}
use Rattle.fts_snapshots.specs.MergedSegments.{IsJob, merged_of}
use Rattle.fts_snapshots.specs.Snapshots.{SnapshotValue}
use Rattle.fts_snapshots.specs.Successors.{Fits}
use Rattle.fts_snapshots.proofs.LateBeginLemmas.{job_begun, fits_begun}
use Rattle.fts_snapshots.proofs.SnapshotLemmas.{snapshot_with}
use Rattle.fts_snapshots.proofs.SourceLemmas.{unless_ok}
use Rattle.fts_snapshots.proofs.snapshot.Snapshot.begin_merge.Goals as goal

pub new-requires : goal.new-requires
new-requires c =
    let inside = c.self.inside in
    let ids = c.args.ids.now in
    let es = inside.entries in
    let s = snapshot_with inside.schema es inside.next_id in
    let both = unless_ok (names_fault es ids) (entries_at es ids) c.in_ok-entries.entries.items c.in_ok-entries.ensures.found in
    subst IsJob (sym both.1) (job_begun s ids c.self.invariant both.0)

pub returns-clause-job : goal.returns-clause-job
returns-clause-job c =
    let ids = c.args.ids.now in
    subst (λ (s : SnapshotValue). ok_unless (names_fault s.entries ids) (entries_at s.entries ids) ≡ Ok c.new.result) c.self.view_is
    (c.in_ok-entries.ensures.found ∙ ap Ok (sym c.new.ensures))

pub returns-clause-fits : goal.returns-clause-fits
returns-clause-fits c =
    let inside = c.self.inside in
    let ids = c.args.ids.now in
    let es = inside.entries in
    let s = snapshot_with inside.schema es inside.next_id in
    let both = unless_ok (names_fault es ids) (entries_at es ids) c.in_ok-entries.entries.items c.in_ok-entries.ensures.found in
    subst (λ (job : List EntryValue). Fits (merged_of job) c.args.self.now) (sym (c.new.ensures ∙ both.1))
    (subst (Fits (merged_of (entries_at es ids))) c.self.view_is (fits_begun s ids c.self.invariant both.0))
