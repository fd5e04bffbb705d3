-- The indexes of fields, compared with documents.
use Rattle.std.specs.Prelude.{◌≡◌, ℕ, true, false, List, length, Option, Some, IfSome, All, slice_get}
use Rattle.fts_model.specs.declared.schema.Kind.{Kind}
use Rattle.fts_model.specs.declared.schema.Kind.TheVariants as kinds
use Rattle.fts_model.specs.declared.value.FieldValue.{FieldValue}
use Rattle.fts_model.specs.declared.value.FieldValue.TheVariants as values
use Rattle.fts_model.specs.declared.operation.Stamped.{Stamped}
use Rattle.fts_model.specs.Operations.{kind_at}
use Rattle.fts_model.specs.Schemas.{holds_numbers}
use Rattle.fts_model.specs.Documents.{DocumentValue}
use Rattle.fts_segment.specs.declared.field_index.FieldIndex.{FieldIndex}
use Rattle.fts_segment.specs.declared.field_index.FieldIndex.TheVariants.{Terms, Keywords, Numbers}
use Rattle.fts_segment.specs.declared.joining.IndexedField.{IndexedField}
use Rattle.fts_segment.specs.declared.dictionary.Dictionary.{Dictionary}
use Rattle.fts_segment.specs.declared.keyword_index.KeywordIndex.{KeywordIndex}
use Rattle.fts_segment.specs.declared.number_index.NumberIndex.{NumberIndex}
use Rattle.fts_segment.specs.Occurrences.{occurrences, values_in, HasFewTokens}
use Rattle.fts_segment.specs.Dictionaries.{IsDictionaryOf}
use Rattle.fts_segment.specs.Keywords.{ordinals_of, texts_of}
use Rattle.fts_segment.specs.Numbers.{Fits64, numbers_of, IsNumberIndex}
use Rattle.fts_segment.specs.Segments.{SegmentValue}

-- a dictionary is that of a text or keyword field
pub record AreTerms (kind : Kind) (vs : List (Option FieldValue)) (dictionary : Dictionary) : Type 0 where
  pub kind_is : holds_numbers kind ≡ false
  pub few : All (HasFewTokens kind) vs
  pub dictionary_is : IsDictionaryOf (occurrences kind 0 vs) dictionary.names dictionary.lists dictionary.positions

-- a dictionary is that of this many documents in a text or keyword field
pub record AreTermsOf (kind : Kind) (field : ℕ) (documents : List (Stamped DocumentValue)) (docs : ℕ)
    (dictionary : Dictionary) : Type 0 where
  pub count : length documents ≡ docs
  pub terms : AreTerms kind (values_in field documents) dictionary

-- a keyword index is that of a keyword field
pub record AreKeywords (kind : Kind) (vs : List (Option FieldValue)) (index : KeywordIndex) : Type 0 where
  pub kind_is : kind ≡ kinds.Keyword
  pub terms : AreTerms kind vs index.dictionary
  pub ordinals : index.ordinals ≡ ordinals_of kind vs

-- a document has the keyword of an ordinal
pub record HasKeywordAt (vs : List (Option FieldValue)) (ordinal doc : ℕ) : Type 0 where
  pub text : List ℕ
  pub is : slice_get (texts_of kinds.Keyword vs) ordinal ≡ Some text
  pub has : slice_get vs doc ≡ Some (Some (values.Text text))

-- a number index is that of a number field
pub record AreNumbers (kind : Kind) (vs : List (Option FieldValue)) (index : NumberIndex) : Type 0 where
  pub kind_is : holds_numbers kind ≡ true
  pub fit : All (λ v. IfSome v (Fits64 kind)) vs
  pub column_is : index.column ≡ numbers_of kind vs
  pub index_is : IsNumberIndex (numbers_of kind vs) index.numbers.items index.lists

-- an index is that of a field of this kind, in which the documents have these values
abbrev pub IsFieldIndex : Kind → List (Option FieldValue) → FieldIndex → Type 0
IsFieldIndex kind vs (Terms dictionary) = (kind ≡ kinds.Text) × AreTerms kind vs dictionary
IsFieldIndex kind vs (Keywords index) = AreKeywords kind vs index
IsFieldIndex kind vs (Numbers index) = AreNumbers kind vs index

-- the numbers of documents in a field of this kind fit 64 bits
abbrev pub NumbersFit : Kind → ℕ → List (Stamped DocumentValue) → Type 0
NumbersFit kind field documents = All (λ v. IfSome v (Fits64 kind)) (values_in field documents)

-- an index is that of the field of this number of a segment
abbrev pub IsFieldOf : SegmentValue → ℕ → IndexedField → Type 0
IsFieldOf segment number field = (kind : Kind) → kind_at segment.schema number ≡ Some kind
    → IsFieldIndex kind (values_in number segment.documents) field.index

-- there is one index for each field of a segment, in their order
pub record AreFieldsOf (segment : SegmentValue) (fields : List IndexedField) : Type 0 where
  pub count : length fields ≡ length segment.schema
  pub each : (number : ℕ) (field : IndexedField) → slice_get fields number ≡ Some field → IsFieldOf segment number field
