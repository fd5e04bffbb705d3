use Rattle.std.proofs.Common.{◌≡◌, ◌++◌, All, drop}
use Rattle.fts_segment.specs.Positions.{position_lists_from, position_lists_of}
use Rattle.fts_positions.specs.PositionLists.{IsPositionList}
use Rattle.fts_positions.specs.PositionListLogs.{IsPositionListLog, logged_position_lists}
use Rattle.fts_segment.proofs.postings_writer.push_position_lists.Given as goal

abbrev pub invariant-loop-place : goal.invariant-loop-place
invariant-loop-place l =
    (logged_position_lists l.lists ++ position_lists_from l.doc l.list.items (drop l.place-index l.rest) ≡ logged_position_lists l.fn.lists ++ position_lists_of
    l.places)
    × All IsPositionList (position_lists_from l.doc l.list.items (drop l.place-index l.rest)) × IsPositionListLog l.lists
