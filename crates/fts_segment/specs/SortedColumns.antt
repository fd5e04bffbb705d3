-- The sorted numbers of a field, or the ordinals of its texts.
use Rattle.std.specs.Prelude.{◌≡◌, ℕ, List, Option, Some, None, length, if◌then◌else◌}
use Rattle.std.specs.Borrow.{Bor}
use Rattle.std.specs.List.{range_with_len}
use Rattle.fts_model.specs.Queries.{is_number_field}
use Rattle.fts_model.specs.Schemas.{holds_numbers}
use Rattle.fts_model.specs.declared.schema.Kind.{Kind}
use Rattle.fts_model.specs.declared.value.FieldValue.{FieldValue}
use Rattle.fts_segment.specs.declared.sorted_column.SortedColumn.{SortedColumn}
use Rattle.fts_segment.specs.Between.{NumberColumn}
use Rattle.fts_segment.specs.Keywords.{ordinals_of}
use Rattle.fts_segment.specs.Numbers.{IsNumberIndex, numbers_of}
use Rattle.fts_segment.specs.Segments.{SegmentValue, column, ordinals}

-- the numbers of values in a field of this kind, or their ordinals
abbrev pub column_of : Kind → List (Option FieldValue) → NumberColumn
column_of kind vs = if holds_numbers kind then numbers_of kind vs else ordinals_of kind vs

-- the numbers of the documents in a field, or their ordinals
abbrev pub column_in : SegmentValue → ℕ → NumberColumn
column_in segment field =
    if is_number_field segment.schema field then column segment field else ordinals segment field

-- the distinct numbers, this many: those that are stored, or else the list indexes
abbrev pub different : Option (Bor (List ℕ)) → ℕ → List ℕ
different None count = range_with_len 0 count
different (Some numbers) count = numbers.now

abbrev pub numbers_in : SortedColumn → List ℕ
numbers_in ordered = different ordered.numbers (length ordered.lists.now)

-- the distinct numbers of a column in order, with the documents of each
pub record IsOrdered (column : NumberColumn) (ordered : SortedColumn) : Type 0 where
  pub column_is : ordered.column.now ≡ column
  pub index_is : IsNumberIndex column (numbers_in ordered) ordered.lists.now
