-- An index over a writer of segments and uncommitted operations.
use Rattle.std.specs.Prelude.{◌≡◌, Bool, ℕ, ◌≤◌, Option, Some, List, length}
use Rattle.fts_snapshots.specs.CountedSnapshots.{IsCounted}
use Rattle.fts_snapshots.specs.Snapshots.{SnapshotValue, content_of}
use Rattle.fts_snapshots.specs.declared.entries.entry.SegmentInfo.{SegmentInfo}
use Rattle.fts_index.specs.Publications.{Known}
use Rattle.fts_index.specs.Writers.{WriterValue}
use Rattle.fts_engine.specs.Indexes.{Index}
use Rattle.fts_engine.specs.declared.options.Merge.{Merge}
use Rattle.fts_engine_index.specs.declared.uncommitted.Uncommitted.{Uncommitted}
use Rattle.fts_engine_index.specs.UncommittedOperations.{ops_of, IsUncommittedIn}

-- the index at a writer's last commit, with the uncommitted operations
abbrev pub index_of : WriterValue → Uncommitted → Index
index_of w uncommitted = record {
  schema = w.front.snapshot.schema;
  documents = content_of w.front.snapshot;
  commit_stamp = w.front.stamp;
  uncommitted = ops_of uncommitted;
}

-- a reader, if there is one, is of the writer whose publications these are
abbrev pub IsReaderOf : Known → Option Known → Type 0
IsReaderOf seen reader = (known : Known) → reader ≡ Some known → known.of ≡ seen.of

-- What holds of an engine after this many calls that changed it. A call opens one round at most.
pub record IsIndexEngine (w : WriterValue) (reader : Option Known) (uncommitted : Uncommitted) (count calls : ℕ)
    : Type 0 where
  pub its : IsUncommittedIn w uncommitted
  pub reads : IsReaderOf w.front.seen reader
  pub many : count ≡ length (ops_of uncommitted)
  pub rounds : w.rounds ≤ calls
  pub counted : IsCounted w.front.stamp w.front.snapshot (ops_of uncommitted) calls

-- an engine: its index, how many calls changed it, and what no reply shows: how large its segments are, if it has a
-- reader, the segments of its last commit, when it merges, and whether all that was due after that commit was merged
pub record EngineValue : Type 0 where
  pub index : Index
  pub calls : ℕ
  pub segments : List SegmentInfo
  pub has_reader : Bool
  pub snapshot : SnapshotValue
  pub merge : Merge
  pub is_merged : Bool
