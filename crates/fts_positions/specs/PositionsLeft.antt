-- The positions that an iterator has not reached.
use Rattle.std.specs.Prelude.{◌≡◌, ℕ, ◌≤◌, ◌==◌, Bool, List}
use Rattle.std.specs.List.{list_any}
use Rattle.fts_positions.specs.declared.positions.Positions.{Positions}
use Rattle.fts_positions.specs.PositionLists.{positions_from}

-- the positions that an iterator has not reached
abbrev pub positions_left : Positions → List ℕ
positions_left positions = positions_from positions.first positions.at positions.end

-- whether a position is one of these
abbrev pub has : List ℕ → ℕ → Bool
has positions position = list_any (λ p. p == position) positions

-- two lists have the same positions from one on
abbrev pub AreSameFrom : ℕ → List ℕ → List ℕ → Type 0
AreSameFrom from some others = (position : ℕ) → from ≤ position → has some position ≡ has others position
