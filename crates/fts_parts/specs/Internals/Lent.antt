-- The value of a group whose keyword, if it is one, stays in the segment.
use Rattle.fts_model.specs.declared.value.GroupValue.{GroupValue}
use Rattle.fts_model.specs.declared.value.GroupValue.TheVariants as group_values
use Rattle.fts_parts.specs.declared.lent.LentValue.{LentValue}
use Rattle.fts_parts.specs.declared.lent.LentValue.TheVariants.{U64, I64, Keyword}

-- the value, with the text that is borrowed
abbrev pub value_of : LentValue → GroupValue
value_of (U64 n) = group_values.U64 n
value_of (I64 z) = group_values.I64 z
value_of (Keyword text) = group_values.Keyword text.now
