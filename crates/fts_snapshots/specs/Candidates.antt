-- The candidates that are merged, and the snapshot that this leaves.
use Rattle.std.specs.Prelude.{◌≡◌, ◌+◌, ◌⊎◌, ℕ, Bool, true, nat_lt, List, [], ◌∷◌, length, is_none, if◌then◌else◌}
use Rattle.fts_snapshots.specs.LateMerges.{after_merge}
use Rattle.fts_snapshots.specs.Snapshots.{SnapshotValue, merge_fault}

-- the snapshot after a merge of a candidate's segments; if they can't be merged, it is unchanged
abbrev pub after_candidate : List ℕ → SnapshotValue → SnapshotValue
after_candidate ids s = if is_none (merge_fault ids s) then after_merge ids s else s

-- candidates were merged one after the other, except for `refused` for which memory ran out and which changed nothing
abbrev pub MergesAllBut : ℕ → List (List ℕ) → SnapshotValue → SnapshotValue → Type 0
MergesAllBut refused [] old new = (refused ≡ 0) × (new ≡ old)
MergesAllBut refused (ids ∷ candidates) old new =
    MergesAllBut refused candidates (after_candidate ids old) new
    ⊎ ((others : ℕ) × (refused ≡ others + 1) × MergesAllBut others candidates old new)

-- the candidates that are merged after a commit: up to the first of a single segment, since such a merge uses up a
-- number without freeing a segment
abbrev pub due : List (List ℕ) → List (List ℕ)
due [] = []
due (ids ∷ candidates) = if nat_lt (length ids) 2 then ids ∷ [] else ids ∷ due candidates

-- The due candidates were merged, except for those for which memory ran out; if `is_all`, it ran out for none.
pub record MergesDue (candidates : List (List ℕ)) (old new : SnapshotValue) (is_all : Bool) : Type 0 where
  pub refused : ℕ
  pub merges : MergesAllBut refused (due candidates) old new
  pub none : is_all ≡ true → refused ≡ 0
