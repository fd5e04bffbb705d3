-- The layout of a segment in memory.
use Rattle.std.specs.Prelude.{◌≤◌, ◌^◌, length}
use Rattle.std.specs.Arc.{arc_value}
use Rattle.fts_segment.specs.declared.segment.Segment.TheInside.{Inside}
use Rattle.fts_segment.specs.Segments.{SegmentValue, AllFit, AreDocuments}
use Rattle.fts_segment.specs.FieldIndexes.{AreFieldsOf}

-- the documents that are stored
abbrev pub stored_value : Inside → SegmentValue
stored_value s = record { schema = (arc_value s.stored).schema; documents = (arc_value s.stored).documents.items }

-- the documents fit the schema and have values that their fields can have, and the fields are indexed
pub record IsStored (s : Inside) : Type 0 where
  pub fit : AllFit (arc_value s.stored).schema (arc_value s.stored).documents.items
  pub documents_are : AreDocuments (arc_value s.stored).documents.items
  pub few : length (arc_value s.stored).documents.items ≤ 2 ^ 32
  pub fields_are : AreFieldsOf (stored_value s) (arc_value s.stored).fields.items
