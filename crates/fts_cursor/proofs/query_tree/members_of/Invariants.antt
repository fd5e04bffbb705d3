-- A member for each of the pattern so far.
use Rattle.std.proofs.Common.{take}
use Rattle.std.specs.List.{AllZip}
use Rattle.fts_cursor.specs.Builds.{IsMemberFor}
use Rattle.fts_cursor.proofs.query_tree.members_of.Given as goal

abbrev pub invariant-loop-offset : goal.invariant-loop-offset
invariant-loop-offset l = AllZip (IsMemberFor l.segment l.field) (take l.offset-index l.pattern) l.members.items
