-- Merges of candidates whose segments are made side by side, before the first of the merges ends.
use Rattle.std.specs.Prelude.{◌≡◌, ◌≢◌, None, ℕ, List, Result, IfOk, AllPairs, flat_map, sum_by}
use Rattle.std.specs.List.{AllZip}
use Rattle.fts_base.specs.declared.refusal.Refusal.{Refusal}
use Rattle.fts_base.specs.Results.{Gives, ok_unless}
use Rattle.fts_snapshots.specs.Entries.{live_count}
use Rattle.fts_snapshots.specs.MergedSegments.{MergedSegmentValue, merged_of}
use Rattle.fts_snapshots.specs.Merges.{entries_at, names_fault, size_fault}
use Rattle.fts_snapshots.specs.Snapshots.{SnapshotValue}
use Rattle.fts_snapshots.specs.Successors.{Fits}
use Rattle.fts_snapshots.specs.declared.merges.merge_task.MergeTask.{MergeTask}

-- no number is in two candidates, or twice in one
abbrev pub AreApart : List (List ℕ) → Type 0
AreApart candidates = AllPairs (λ a b. a ≢ b) (flat_map (λ ids. ids) candidates)

-- A segment is what a merge of the segments with these numbers makes in a snapshot. The merge can begin there, isn't
-- too large, and can end there unless numbers are used up.
pub record IsMadeFor (ids : List ℕ) (s : SnapshotValue) (m : MergedSegmentValue) : Type 0 where
  pub named : names_fault s.entries ids ≡ None
  pub few : size_fault (sum_by live_count (entries_at s.entries ids)) ≡ None
  pub merged : m ≡ merged_of (entries_at s.entries ids)
  pub fits : Fits m s

-- segments were made for candidates in a snapshot, except for those that were refused
abbrev pub AreMadeFor : List (List ℕ) → SnapshotValue → List (Result MergedSegmentValue Refusal) → Type 0
AreMadeFor candidates s made = AllZip (λ ids result. IfOk result (IsMadeFor ids s)) candidates made

-- a task makes the segment of a merge of the segments with these numbers, which began in a snapshot
pub record IsTaskFor (s : SnapshotValue) (ids : List ℕ) (task : MergeTask) : Type 0 where
  pub named : names_fault s.entries ids ≡ None
  pub entries : task.job ≡ entries_at s.entries ids
  pub fits : Fits (merged_of task.job) s

-- a task returns the segment that it makes, or it would be too large, or memory ran out
abbrev pub Makes : MergeTask → Result MergedSegmentValue Refusal → Type 0
Makes task result = Gives (λ m. m) result (ok_unless (size_fault (sum_by live_count task.job)) (merged_of task.job))
