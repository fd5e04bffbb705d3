-- What calls that change an index take of stamps, segments and ids, and what is merged after a commit.
use Rattle.std.specs.Prelude.{◌≡◌, Bool, ℕ, ◌+◌, ◌*◌, ◌≤◌, Option, None, Some, List, [], length}
use Rattle.fts_merge.specs.declared.merge_policy.MergePolicy.{MergePolicy}
use Rattle.fts_model.specs.declared.operation.Op.{Op}
use Rattle.fts_model.specs.declared.operation.Stamped.{Stamped}
use Rattle.fts_snapshots.specs.Candidates.{MergesDue}
use Rattle.fts_snapshots.specs.Changes.{Commits}
use Rattle.fts_snapshots.specs.Commits.{misfit}
use Rattle.fts_snapshots.specs.Infos.{candidate_ids_by}
use Rattle.fts_snapshots.specs.Snapshots.{SnapshotValue, segments_and_numbers}

-- What holds after a number of calls that change an index: the uncommitted operations fit the schema, and each call
-- took at most one stamp, and at most two of segments and ids together.
pub record IsCounted (stamp : ℕ) (snapshot : SnapshotValue) (uncommitted : List (Stamped Op)) (calls : ℕ) : Type 0 where
  pub fit : misfit snapshot.schema uncommitted ≡ None
  pub stamps : stamp + length uncommitted ≤ calls
  pub segments : segments_and_numbers snapshot + 2 * length uncommitted ≤ 2 * calls

-- the candidates of the merges after a commit: those of a policy, if there is one
abbrev pub candidates_after : Option MergePolicy → SnapshotValue → List (List ℕ)
candidates_after None s = []
candidates_after (Some policy) s = candidate_ids_by policy s.entries

-- Operations were committed, and then what was due by a policy was merged, except what memory ran out for.
pub record CommitsAndMerges (policy : Option MergePolicy) (ops : List (Stamped Op)) (old new : SnapshotValue)
    (is_merged : Bool) : Type 0 where
  pub made : SnapshotValue
  pub commits : Commits ops old made
  pub merges : MergesDue (candidates_after policy made) made new is_merged
