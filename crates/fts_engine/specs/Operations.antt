-- Operations that add documents.
use Rattle.std.specs.Prelude.{Bool, true, false}
use Rattle.fts_model.specs.declared.operation.Op.{Op}
use Rattle.fts_model.specs.declared.operation.Op.TheVariants.{Add, Delete, DeleteAll}

abbrev pub is_add : Op → Bool
is_add (Add document) = true
is_add (Delete term) = false
is_add DeleteAll = false
