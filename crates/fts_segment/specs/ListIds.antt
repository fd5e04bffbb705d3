-- The documents and positions of the list of a term.
use Rattle.std.specs.Prelude.{ℕ, List, slice_range}
use Rattle.fts_pack.specs.ListRef.{listed}
use Rattle.fts_segment.specs.declared.segment.ListId.{ListId}
use Rattle.fts_positions.specs.PositionLists.{lists_behind}

-- the numbers of the documents that have the term
abbrev pub documents_in : ListId → List ℕ
documents_in list = listed list.list

-- the positions of a term in each of its documents; a number has none
abbrev pub positions_in : ListId → List (List ℕ)
positions_in list = slice_range (lists_behind list.positions) list.start list.end
