-- The rest of the proof of `snapshot::Snapshot::merge_by`.
use Rattle.std.proofs.Common.{List, sum_by, sym, ap, subst, ◌∙◌}
use Rattle.fts_base.specs.Results.{Gives}
use Rattle.fts_snapshots.specs.Entries.{EntryValue, live_count}
use Rattle.fts_snapshots.specs.Merges.{entries_at, names_fault, size_fault}
use Rattle.fts_snapshots.specs.MergedSegments.{merged_of}
use Rattle.fts_snapshots.proofs.LateBeginLemmas.{merge_here}
use Rattle.fts_snapshots.proofs.MergedInfoLemmas.{infos_given}
use Rattle.fts_snapshots.proofs.SourceLemmas.{unless_ok}
use Rattle.fts_snapshots.proofs.snapshot.Snapshot.merge_by.Goals as goal

pub returns-in-Ok-clause-snapshot : goal.returns-in-Ok-clause-snapshot
returns-in-Ok-clause-snapshot g c =
    let s = c.args.self.now in
    let ids = c.args.ids.now in
    let job = c.in_ok-begun.begun in
    let both = unless_ok (names_fault s.entries ids) (entries_at s.entries ids) job c.in_ok-begun.ensures.job in
    let few = sym (ap (λ (es : List EntryValue). size_fault (sum_by live_count es)) both.1) ∙ c.in-Ok.ensures.few in
    subst (Gives (λ new. new) c.end_merge.result) (merge_here s ids c.in-Ok.merged both.0 few (c.in-Ok.ensures.merged ∙ ap merged_of both.1))
    c.end_merge.ensures.snapshot

pub returns-in-Ok-clause-segments : goal.returns-in-Ok-clause-segments
returns-in-Ok-clause-segments g c = infos_given c.args.self.now c.args.ids.now c.end_merge.result c.begin_merge.ensures.snapshot (returns-in-Ok-clause-snapshot g c)
