-- The uncommitted operations, in a round of one lane.
use Rattle.std.specs.Prelude.{◌≡◌, ℕ, ◌+◌, ◌<◌, ◌≤◌, ◌⊎◌, true, Some, None, Result, Ok, Err}
use Rattle.std.specs.Prelude.{List, [], ◌∷◌, ◌++◌, length}
use Rattle.fts_base.specs.declared.refusal.Refusal.{Refusal}
use Rattle.fts_base.specs.declared.refusal.Refusal.TheVariants.{Memory, LaneFull}
use Rattle.fts_model.specs.declared.operation.Op.{Op}
use Rattle.fts_model.specs.declared.operation.Stamped.{Stamped}
use Rattle.fts_engine.specs.Steps.{most_uncommitted}
use Rattle.fts_rounds.specs.Rounds.{Opened, Held, IsLaneOf}
use Rattle.fts_rounds.specs.Rounds as rounds
use Rattle.fts_index.specs.Writers.{WriterValue, is_of}
use Rattle.fts_engine_index.specs.declared.uncommitted.Uncommitted.{Uncommitted}
use Rattle.fts_engine_index.specs.declared.uncommitted.Uncommitted.TheVariants.{Nothing, Open, Ended, Gathered}

-- the operations of the first lane
abbrev pub first_ops : List Held → List (Stamped Op)
first_ops [] = []
first_ops (end ∷ ends) = end.ops

-- the operations
abbrev pub ops_of : Uncommitted → List (Stamped Op)
ops_of Nothing = []
ops_of (Open round lane) = lane.ops
ops_of (Ended round ends) = first_ops ends.items
ops_of (Gathered batch) = batch.ops

-- the round has one lane, of as many operations as may be uncommitted
pub record HasOneLane (round : Opened) : Type 0 where
  pub lanes : round.limits.lanes ≡ 1
  pub cap : round.limits.cap ≡ most_uncommitted

-- the writer's open round is this one, and its first stamp comes after the last commit's
pub record IsOpen (w : WriterValue) (round : Opened) : Type 0 where
  pub is_open : w.round ≡ Some round.limits
  pub first : round.limits.first ≡ w.front.stamp + 1
  pub one_lane : HasOneLane round

-- the lane is the one of the round, and isn't over its limit
pub record IsItsLane (round : Opened) (lane : Held) : Type 0 where
  pub its : IsLaneOf round lane
  pub most : length lane.ops ≤ most_uncommitted

-- the end is that of the one lane of the round
pub record IsItsEnd (round : Opened) (ends : List Held) : Type 0 where
  pub end : Held
  pub alone : ends ≡ end ∷ []
  pub its : IsLaneOf round end

-- the batch is of the writer's open round, and its first stamp comes after the last commit's
pub record IsItsBatch (w : WriterValue) (batch : rounds.Gathered) : Type 0 where
  pub its : is_of w.round batch ≡ true
  pub first : batch.first ≡ w.front.stamp + 1

-- the uncommitted operations are those of the writer's open round, or there are none and no round is open
abbrev pub IsUncommittedIn : WriterValue → Uncommitted → Type 0
IsUncommittedIn w Nothing = w.round ≡ None
IsUncommittedIn w (Open round lane) = IsOpen w round × IsItsLane round lane
IsUncommittedIn w (Ended round ends) = IsOpen w round × IsItsEnd round ends.items
IsUncommittedIn w (Gathered batch) = IsItsBatch w batch

-- An operation was taken after others, and its stamp counts from the first one. At a refusal they are as they were, and
-- memory ran out or there were as many as there may be.
abbrev pub Submits : ℕ → Op → List (Stamped Op) → List (Stamped Op) → Result ℕ Refusal → Type 0
Submits first op old new (Ok stamp) = (stamp ≡ first + length old)
    × (new ≡ old ++ record { stamp = stamp; value = op } ∷ []) × (length old < most_uncommitted)
Submits first op old new (Err refusal) =
    (new ≡ old) × ((refusal ≡ Memory) ⊎ ((refusal ≡ LaneFull) × (most_uncommitted ≤ length old)))

-- the batch has these operations of the round
pub record IsBatchOf (round : Opened) (ops : List (Stamped Op)) (batch : rounds.Gathered) : Type 0 where
  pub number : batch.round ≡ round.limits.round
  pub first : batch.first ≡ round.limits.first
  pub ops_are : batch.ops ≡ ops

-- these operations of the round stay uncommitted
pub record StayUncommitted (round : Opened) (ops : List (Stamped Op)) (uncommitted : Uncommitted) : Type 0 where
  pub same : ops_of uncommitted ≡ ops
  pub its : (w : WriterValue) → IsOpen w round → IsUncommittedIn w uncommitted
