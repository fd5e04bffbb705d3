-- Prepared commits, whose jobs may be run by any threads.
use Rattle.std.specs.Prelude.{◌≡◌, ◌+◌, ◌≤◌, ◌^◌, None, List}
use Rattle.fts_model.specs.declared.operation.Op.{Op}
use Rattle.fts_model.specs.declared.operation.Stamped.{Stamped}
use Rattle.fts_model.specs.declared.cut.Cut.{Cut}
use Rattle.fts_snapshots.specs.Cuts.{IsCut}
use Rattle.fts_snapshots.specs.Commits.{all_after, committed, misfit, new_segments, struck_by}
use Rattle.fts_snapshots.specs.Entries.{EntryValue}
use Rattle.fts_snapshots.specs.Snapshots.{IsBehind, IsSnapshot, SnapshotValue, content_of}

-- a prepared commit: its batch, its cut, and its snapshot
pub record PreparedValue : Type 0 where
  pub cut : Cut
  pub batch : List (Stamped Op)
  pub snapshot : SnapshotValue

-- the prepared commit of a batch, cut in some way, on a snapshot
abbrev pub prepared : Cut → List (Stamped Op) → SnapshotValue → PreparedValue
prepared cut batch snapshot = record { cut = cut; batch = batch; snapshot = snapshot }

-- every prepared commit has a batch that can be committed
pub record IsPrepared (p : PreparedValue) : Type 0 where
  pub cut : IsCut p.cut
  pub behind : IsBehind (content_of p.snapshot) p.batch
  pub fits : misfit p.snapshot.schema p.batch ≡ None
  pub room : p.snapshot.next_id + new_segments p.cut p.batch ≤ 2 ^ 62
  pub snapshot : IsSnapshot p.snapshot

-- the segments that the jobs leave, one per job: the existing ones that may be changed, and the new ones
abbrev pub entries_left : PreparedValue → List EntryValue
entries_left p =
    all_after p.cut p.snapshot.schema p.batch p.snapshot.next_id (struck_by p.batch p.snapshot.entries)

-- the segments with a live document among those that the jobs leave
abbrev pub entries_kept : PreparedValue → List EntryValue
entries_kept p =
    committed p.cut p.snapshot.schema p.batch p.snapshot.next_id (struck_by p.batch p.snapshot.entries)
