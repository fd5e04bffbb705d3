-- The position lists of a copier.
use Rattle.std.specs.Prelude.{ℕ, List}
use Rattle.fts_positions.specs.declared.position_copier.PositionCopier.{PositionCopier}
use Rattle.fts_positions.specs.PositionLists.{position_lists_at}

-- the lists that a copier reads
abbrev pub lists_in : PositionCopier → List (List ℕ)
lists_in lists = position_lists_at lists.counts.numbers.now lists.gaps.numbers.now
