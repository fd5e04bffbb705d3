-- The view that contracts have of a reader of a list's blocks.
use Rattle.std.specs.Prelude.{ℕ, List}
use Rattle.fts_pack.specs.declared.list_source.ListSource.{ListSource}
use Rattle.fts_pack.specs.ListRef.{listed}

-- the documents of the list
abbrev pub documents_in : ListSource → List ℕ
documents_in source = listed source.list

-- the number of times that a block was opened
abbrev pub openings_of : ListSource → ℕ
openings_of source = source.opened
