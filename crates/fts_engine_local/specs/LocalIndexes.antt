-- An index over a commit and the operations since, in one thread.
use Rattle.std.specs.Prelude.{◌≡◌, Bool, ℕ, ◌+◌, Option, List, length}
use Rattle.std.specs.List.{range_with_len}
use Rattle.std.specs.Option.{ForSome}
use Rattle.fts_model.specs.declared.cut.Cut.{Cut}
use Rattle.fts_model.specs.declared.operation.Op.{Op}
use Rattle.fts_model.specs.declared.operation.Stamped.{Stamped}
use Rattle.fts_model.specs.Operations.{stamps_of}
use Rattle.fts_snapshots.specs.CountedSnapshots.{IsCounted}
use Rattle.fts_snapshots.specs.Cuts.{IsCut}
use Rattle.fts_snapshots.specs.Entries.{EntryValue}
use Rattle.fts_snapshots.specs.MergedSegments.{merged_of}
use Rattle.fts_snapshots.specs.Snapshots.{SnapshotValue, content_of}
use Rattle.fts_snapshots.specs.Successors.{Fits}
use Rattle.fts_snapshots.specs.declared.commit_point.CommitPoint.{CommitPoint}
use Rattle.fts_engine.specs.Indexes.{Index}
use Rattle.fts_engine.specs.declared.options.Merge.{Merge}
use Rattle.fts_engine_local.specs.declared.stats.Stats.{Stats}

-- the index of a commit and of the operations since
abbrev pub index_at : ℕ → SnapshotValue → List (Stamped Op) → Index
index_at stamp snapshot uncommitted = record {
  schema = snapshot.schema;
  documents = content_of snapshot;
  commit_stamp = stamp;
  uncommitted = uncommitted;
}

-- an engine: its index, how many calls changed it, and how large it is; and what no reply shows: the segments of its
-- last commit, when it merges, whether all that was due after that commit was merged, the segments of the merge that
-- was started last, and the limit of what its commits merge
pub record LocalValue : Type 0 where
  pub index : Index
  pub calls : ℕ
  pub stats : Stats
  pub snapshot : SnapshotValue
  pub merge : Merge
  pub is_merged : Bool
  pub begun : Option (List EntryValue)
  pub limit : Option ℕ

-- What holds of an engine after this many calls that changed it: the operations have the stamps after the commit's, and
-- what the started merge makes can take the place of its sources.
pub record IsLocalEngine (commit : CommitPoint) (uncommitted : List (Stamped Op)) (cut : Cut) (calls : ℕ)
    (begun : Option (List EntryValue)) : Type 0 where
  pub fits : ForSome begun (λ job. Fits (merged_of job) commit.snapshot)
  pub cuts : IsCut cut
  pub numbered : stamps_of uncommitted ≡ range_with_len (commit.stamp + 1) (length uncommitted)
  pub counted : IsCounted commit.stamp commit.snapshot uncommitted calls
