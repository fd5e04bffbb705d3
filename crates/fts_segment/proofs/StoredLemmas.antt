-- A segment as it is stored.
use Rattle.std.proofs.Common.{◌≡◌, sym, ap, subst, ◌∙◌}
use Rattle.std.specs.Arc.{arc_value}
use Rattle.fts_segment.specs.declared.segment.Segment.TheInside.{Inside}
use Rattle.fts_segment.specs.declared.segment.SegmentData.{SegmentData}
use Rattle.fts_segment.specs.Segments.{SegmentValue, AllFit, AreDocuments}
use Rattle.fts_segment.specs.FieldIndexes.{AreFieldsOf}
use Rattle.fts_segment.specs.SegmentData.{stored_value, IsStored}

-- the data of a segment with this value
pub record Keeps (value : SegmentValue) (stored : SegmentData) : Type 0 where
  pub value_is : record { schema = stored.schema; documents = stored.documents.items } ≡ value
  pub fields_are : AreFieldsOf (record { schema = stored.schema; documents = stored.documents.items }) stored.fields.items
  pub fit : AllFit value.schema value.documents
  pub documents_are : AreDocuments value.documents

pub keeps : (segment : Inside) (value : SegmentValue) (stored : SegmentData) → stored_value segment ≡ value → IsStored segment → stored ≡ arc_value segment.stored →
    Keeps value stored
keeps segment value stored view is same = record {
  value_is = ap (λ (s : SegmentData). record { schema = s.schema; documents = s.documents.items }) same ∙ view;
  fields_are = (let P : SegmentData → Type 0 = λ s. AreFieldsOf (record { schema = s.schema; documents = s.documents.items }) s.fields.items in
      subst P (sym same) is.fields_are);
  fit = subst (λ (v : SegmentValue). AllFit v.schema v.documents) view is.fit;
  documents_are = subst (λ (v : SegmentValue). AreDocuments v.documents) view is.documents_are;
}
