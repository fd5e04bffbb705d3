-- A number for each member so far.
use Rattle.std.proofs.Common.{◌≡◌, length, take}
use Rattle.std.specs.List.{AllZip}
use Rattle.fts_segment.specs.ListIds.{documents_in}
use Rattle.fts_cursor.proofs.query_tree.lengths_of.Given as goal

abbrev pub invariant-loop-member : goal.invariant-loop-member
invariant-loop-member l = AllZip (λ count m. count ≡ length (documents_in m.list)) l.lengths.items (take l.member-index l.members)
