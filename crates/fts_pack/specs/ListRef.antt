-- The view that contracts have of a list among others.
use Rattle.std.specs.Prelude.{ℕ, List}
use Rattle.fts_pack.specs.declared.list_ref.ListRef.{ListRef}
use Rattle.fts_pack.specs.StoredList.{documents_stored}

-- the documents of the list
abbrev pub listed : ListRef → List ℕ
listed list = documents_stored list.stored
