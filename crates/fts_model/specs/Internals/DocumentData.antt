-- The layout of a document in memory.
use Rattle.std.specs.Arc.{arc_value}
use Rattle.fts_model.specs.declared.document.Document.TheInside.{Inside}
use Rattle.fts_model.specs.Documents.{DocumentValue, IsDocument}

-- the document that is stored
abbrev pub stored_value : Inside → DocumentValue
stored_value d = record { schema = (arc_value d.stored).schema; values = (arc_value d.stored).values }

abbrev pub IsStored : Inside → Type 0
IsStored d = IsDocument (stored_value d)
