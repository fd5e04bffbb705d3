-- Which merge is started beside commits, and what its end leaves.
use Rattle.std.specs.Prelude.{◌≡◌, ◌&&◌, ℕ, Bool, List, [], ◌∷◌, Option, Some, None, Result, IfOk}
use Rattle.std.specs.Prelude.{nat_lt, is_none, not, sum_by, if◌then◌else◌}
use Rattle.std.specs.Option.{option_or}
use Rattle.fts_base.specs.declared.refusal.Refusal.{Refusal}
use Rattle.fts_base.specs.Results.{Gives, ok_unless}
use Rattle.fts_model.specs.Limits.{most_merged}
use Rattle.fts_snapshots.specs.Entries.{EntryValue, live_count}
use Rattle.fts_snapshots.specs.Infos.{candidate_ids_by}
use Rattle.fts_snapshots.specs.LateMerges.{after_end, end_fault}
use Rattle.fts_snapshots.specs.MergedSegments.{merged_of}
use Rattle.fts_snapshots.specs.Merges.{entries_at, names_fault}
use Rattle.fts_snapshots.specs.Snapshots.{SnapshotValue, content_of}
use Rattle.fts_engine_local.specs.LocalPolicies.{local_policy}

-- whether segments have so few live documents together that they can be merged
abbrev pub are_few : List EntryValue → Bool
are_few entries = not (nat_lt most_merged (sum_by live_count entries))

-- the segments of these numbers, if they can be merged
abbrev pub job_of : List ℕ → List EntryValue → Option (List EntryValue)
job_of ids entries =
    if is_none (names_fault entries ids) && are_few (entries_at entries ids)
    then Some (entries_at entries ids) else None

-- the segments of the first of candidates that can be merged
abbrev pub first_job : List (List ℕ) → List EntryValue → Option (List EntryValue)
first_job [] entries = None
first_job (ids ∷ candidates) entries = option_or (job_of ids entries) (first_job candidates entries)

-- the segments that are due to be merged beside commits: those of the first candidate of the policy that can be
abbrev pub due_job : List EntryValue → Option (List EntryValue)
due_job entries = first_job (candidate_ids_by (local_policy None) entries) entries

-- What the end of a merge of these segments gives in a snapshot: the snapshot with the merged segment in place of its
-- sources, in which nothing is found differently, or a refusal.
pub record EndsIn (job : List EntryValue) (s : SnapshotValue) (result : Result SnapshotValue Refusal) : Type 0 where
  pub snapshot :
      Gives (λ new. new) result
      (ok_unless (end_fault s.next_id (merged_of job) s.entries) (after_end (merged_of job) s))
  pub content : IfOk result (λ new. content_of new ≡ content_of s)
