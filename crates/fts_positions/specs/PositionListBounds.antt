-- The bounds of a block's position lists.
use Rattle.std.specs.Prelude.{◌≡◌, ℕ, ◌+◌, ◌*◌, ◌≤◌, List, IfSome, length, map, take, sum, slice_index}
use Rattle.fts_positions.specs.declared.position_lists.BlockBounds.{BlockBounds}

-- the number of positions in the lists before this one
abbrev pub positions_before : List (List ℕ) → ℕ → ℕ
positions_before lists number = sum (take number (map length lists))

-- each list of the block begins after the positions of those before it, and the last number is the end of the last list
abbrev pub AreBoundsOf : List (List ℕ) → ℕ → List ℕ → Type 0
AreBoundsOf lists block bounds = (index : ℕ) → index ≤ 128 → block * 128 + index ≤ length lists
    → slice_index bounds index ≡ positions_before lists (block * 128 + index)

-- the bounds of a block, if one was looked up
abbrev pub AreBounds : List (List ℕ) → BlockBounds → Type 0
AreBounds lists bounds = IfSome bounds.block (λ block. AreBoundsOf lists block bounds.at)
