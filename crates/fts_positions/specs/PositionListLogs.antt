-- Lists of positions before they are packed.
use Rattle.std.specs.Prelude.{ℕ, List}
use Rattle.fts_positions.specs.declared.position_lists.PositionListLog.{PositionListLog}
use Rattle.fts_positions.specs.PositionLists.{position_lists_at, AreLogged}

abbrev pub logged_position_lists : PositionListLog → List (List ℕ)
logged_position_lists log = position_lists_at log.counts.items log.gaps.items

abbrev pub IsPositionListLog : PositionListLog → Type 0
IsPositionListLog log = AreLogged log.counts.items log.gaps.items
