-- Snapshots, the effect of a commit on them, and the refusals of commits and merges.
use Rattle.std.specs.Prelude.{◌≡◌, ◌<◌, ◌≤◌, ℕ, ◌+◌, ◌^◌, ◌++◌, true, Option, List, Result, Err, IfOk, IfSome, length}
use Rattle.std.specs.Prelude.{sum_by, All, AllPairs}
use Rattle.fts_model.specs.declared.schema.Field.{Field}
use Rattle.fts_model.specs.declared.operation.Op.{Op}
use Rattle.fts_model.specs.declared.operation.Stamped.{Stamped}
use Rattle.fts_base.specs.declared.refusal.Refusal.{Refusal}
use Rattle.fts_model.specs.Documents.{DocumentValue}
use Rattle.fts_model.specs.Operations.{StampsRise, alive, adds}
use Rattle.fts_base.specs.Results.{Gives, first_of, ok_unless}
use Rattle.fts_snapshots.specs.Entries.{EntryValue, IsEntry, live_count, has_live, content}
use Rattle.fts_model.specs.declared.cut.Cut.{Cut}
use Rattle.fts_snapshots.specs.Commits.{committed, new_segments, numbers_fault}
use Rattle.fts_snapshots.specs.Merges.{entries_at, names_fault, size_fault}

-- a snapshot: its schema, its segments and the number of the next one
pub record SnapshotValue : Type 0 where
  pub schema : List Field
  pub entries : List EntryValue
  pub next_id : ℕ

-- the live documents of a snapshot, in the order of their stamps
abbrev pub content_of : SnapshotValue → List (Stamped DocumentValue)
content_of s = content s.entries

-- the number of segments plus the number of numbers that were given to segments
abbrev pub segments_and_numbers : SnapshotValue → ℕ
segments_and_numbers s = s.next_id + length s.entries

-- the numbers of the segments rise
abbrev pub IdsRise : List EntryValue → Type 0
IdsRise entries = AllPairs (λ a b. a.id < b.id) entries

-- every snapshot has segments whose numbers rise below 2^62, each with a live document, and no stamp twice
pub record IsSnapshot (s : SnapshotValue) : Type 0 where
  pub ids : IdsRise s.entries
  pub below : All (λ entry. entry.id < s.next_id) s.entries
  pub room : s.next_id ≤ 2 ^ 62
  pub schemas : All (λ entry. entry.segment.schema ≡ s.schema) s.entries
  pub each : All IsEntry s.entries
  pub live : All (λ entry. has_live entry ≡ true) s.entries
  pub stamps : StampsRise (content s.entries)

-- operations come after documents: their stamps rise, above those of the documents
pub record IsBehind (documents : List (Stamped DocumentValue)) (ops : List (Stamped Op)) : Type 0 where
  pub first : ℕ
  pub rising : StampsRise ops
  pub before : All (λ document. document.stamp < first) documents
  pub behind : All (λ op. first ≤ op.stamp) ops

-- the snapshot that a commit of a batch leaves
abbrev pub after_commit : Cut → List (Stamped Op) → SnapshotValue → SnapshotValue
after_commit cut batch s = record {
  schema = s.schema;
  entries = committed cut s.schema batch s.next_id s.entries;
  next_id = s.next_id + new_segments cut batch;
}

-- the refusal of a batch: the numbers of segments are used up
abbrev pub commit_fault : Cut → List (Stamped Op) → SnapshotValue → Option Refusal
commit_fault cut batch s = numbers_fault (s.next_id + new_segments cut batch)

-- the result of a commit: a snapshot whose content is alive after the adds of the content before and the batch, or a
-- refusal; if the numbers of segments are used up, it is refused for that, whatever memory is left
pub record GivesCommit (cut : Cut) (batch : List (Stamped Op)) (old : SnapshotValue)
    (result : Result SnapshotValue Refusal) : Type 0 where
  pub snapshot : Gives (λ new. new) result (ok_unless (commit_fault cut batch old) (after_commit cut batch old))
  pub content : IfOk result (λ new. content_of new ≡ alive old.schema (adds (content_of old) ++ batch))
  pub fault : IfSome (commit_fault cut batch old) (λ refusal. result ≡ Err refusal)

-- the refusal of a merge of the segments with these numbers
abbrev pub merge_fault : List ℕ → SnapshotValue → Option Refusal
merge_fault ids s =
    first_of (names_fault s.entries ids)
    (first_of (size_fault (sum_by live_count (entries_at s.entries ids))) (numbers_fault (s.next_id + 1)))
