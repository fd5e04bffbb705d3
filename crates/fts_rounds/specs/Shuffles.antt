-- The relation of a batch to the lanes that it was gathered from.
use Rattle.std.specs.Prelude.{◌≡◌, ℕ, ◌<◌, Bool, List, ◌==◌, filter, length, All, IsPermutation}
use Rattle.std.specs.List.{list_any, flat_map, range_with_len}
use Rattle.fts_model.specs.declared.operation.Op.{Op}
use Rattle.fts_model.specs.declared.operation.Stamped.{Stamped}
use Rattle.fts_base.specs.Totals.{times}
use Rattle.fts_model.specs.Operations.{stamps_of}
use Rattle.fts_rounds.specs.Rounds.{Held}

-- the least lane that has no end here
abbrev pub IsLeastMissing : ℕ → List ℕ → ℕ → Type 0
IsLeastMissing lanes ends n = (n < lanes) × (times n ends ≡ 0) × ((k : ℕ) → k < n → 0 < times k ends)

-- the operations that were submitted, one lane after the other
abbrev pub submissions : List Held → List (Stamped Op)
submissions lanes = flat_map (λ h. h.ops) lanes

-- whether an operation has one of the stamps of a list
abbrev pub has_stamp : List (Stamped Op) → Stamped Op → Bool
has_stamp ops s = list_any (λ x. x.stamp == s.stamp) ops

-- a batch has the consecutive stamps from `first`, each once; its members are the operations that were submitted, each
-- once; the operations of a lane are the members with the lane's stamps, in order
pub record IsShuffle (first : ℕ) (batch : List (Stamped Op)) (lanes : List Held) : Type 0 where
  pub numbered : stamps_of batch ≡ range_with_len first (length batch)
  pub each_once : IsPermutation (submissions lanes) batch
  pub in_order : All (λ h. h.ops ≡ filter (has_stamp h.ops) batch) lanes
