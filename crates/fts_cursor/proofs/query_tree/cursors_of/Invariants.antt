-- A cursor for each member so far.
use Rattle.std.proofs.Common.{take}
use Rattle.std.specs.List.{AllZip}
use Rattle.fts_cursor.specs.Builds.{IsCursorOf}
use Rattle.fts_cursor.proofs.query_tree.cursors_of.Given as goal

abbrev pub invariant-loop-member : goal.invariant-loop-member
invariant-loop-member l = AllZip IsCursorOf l.cursors.items (take l.member-index l.members)
