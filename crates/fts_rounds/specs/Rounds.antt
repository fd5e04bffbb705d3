-- The view that contracts have of a round, its lanes and its batch.
use Rattle.std.specs.Prelude.{◌≡◌, ℕ, ◌<◌, List, [], ◌∷◌, map}
use Rattle.atomic_table.specs.Seated.{TableId}
use Rattle.fts_model.specs.declared.operation.Op.{Op}
use Rattle.fts_model.specs.declared.operation.Stamped.{Stamped}
use Rattle.fts_rounds.specs.declared.stamps.RoundLimits.{RoundLimits}

-- a round: its table, which no other round has, and its limits
pub record Opened : Type 0 where
  pub table : TableId
  pub limits : RoundLimits

-- a lane or its end: its round's table and limits, its number in the round, and its operations
pub record Held : Type 0 where
  pub table : TableId
  pub limits : RoundLimits
  pub lane : ℕ
  pub ops : List (Stamped Op)

-- a batch: its round's number and first stamp, and all operations of the round, in the order of the stamps
pub record Gathered : Type 0 where
  pub round : ℕ
  pub first : ℕ
  pub ops : List (Stamped Op)

-- a lane of a round, before any operation was submitted to it
abbrev pub fresh : Opened → ℕ → Held
fresh r lane = record { table = r.table; limits = r.limits; lane = lane; ops = [] }

-- two are the same lane or its end, with any operations
abbrev pub SameLane : Held → Held → Type 0
SameLane old new = (new.table ≡ old.table) × (new.limits ≡ old.limits) × (new.lane ≡ old.lane)

-- a lane, or its end, is of a round
abbrev pub IsLaneOf : Opened → Held → Type 0
IsLaneOf r h = (h.table ≡ r.table) × (h.limits ≡ r.limits) × (h.lane < r.limits.lanes)

-- the numbers of the lanes with these ends
abbrev pub lanes_of : List Held → List ℕ
lanes_of ends = map (λ h. h.lane) ends

-- each number is below n
abbrev pub AllBelow : ℕ → List ℕ → Type 0
AllBelow n [] = Unit {0}
AllBelow n (x ∷ xs) = (x < n) × AllBelow n xs

-- each number is above n
abbrev pub AllAbove : ℕ → List ℕ → Type 0
AllAbove n [] = Unit {0}
AllAbove n (x ∷ xs) = (n < x) × AllAbove n xs

-- each number is below all after it
abbrev pub Rises : List ℕ → Type 0
Rises [] = Unit {0}
Rises (x ∷ xs) = AllAbove x xs × Rises xs
