-- The documents of a segment, and the postings of a term in it.
use Rattle.std.specs.Prelude.{◌≡◌, ℕ, Bool, true, List, [], ◌∷◌, ◌++◌, All, Option, Some, None, map, filter}
use Rattle.std.specs.Prelude.{option_and_then}
use Rattle.std.specs.List.{enumerate_from}
use Rattle.std.specs.Option.{option_map_or}
use Rattle.fts_model.specs.declared.schema.Field.{Field}
use Rattle.fts_model.specs.declared.operation.Stamped.{Stamped}
use Rattle.fts_model.specs.declared.operation.Term.{Term}
use Rattle.fts_model.specs.declared.schema.Kind.{Kind}
use Rattle.fts_model.specs.declared.schema.Kind.TheVariants as kinds
use Rattle.fts_model.specs.declared.value.FieldValue.{FieldValue}
use Rattle.fts_model.specs.declared.value.FieldValue.TheVariants as values
use Rattle.fts_model.specs.declared.value.Number.TheVariants as numbers
use Rattle.fts_model.specs.Documents.{DocumentValue, IsDocument, fits, value_in_field}
use Rattle.fts_model.specs.Operations.{has, kind_at}
use Rattle.fts_pack.specs.bits.Signed.{u64_of}
use Rattle.fts_segment.specs.Keywords.{ordinals_of, texts_of}
use Rattle.fts_segment.specs.Occurrences.{tokens_of, is_token, values_in}

-- a segment: a schema, and documents with their stamps
pub record SegmentValue : Type 0 where
  pub schema : List Field
  pub documents : List (Stamped DocumentValue)

-- all documents fit a schema
abbrev pub AllFit : List Field → List (Stamped DocumentValue) → Type 0
AllFit schema documents = All (λ d. fits schema d.value ≡ true) documents

-- each of these is a document
abbrev pub AreDocuments : List (Stamped DocumentValue) → Type 0
AreDocuments documents = All (λ d. IsDocument d.value) documents

-- a segment with one more document
abbrev pub with_document : SegmentValue → ℕ → DocumentValue → SegmentValue
with_document segment stamp document =
    record { schema = segment.schema; documents = segment.documents ++ record { stamp = stamp; value = document } ∷ [] }

-- the numbers of the elements that pass a test, if the first element has the number `first`
abbrev pub numbers_where : {X : Type 0} → (X → Bool) → ℕ → List X → List ℕ
numbers_where p first xs = map (λ x. x.0) (filter (λ x. p x.1) (enumerate_from first xs))

-- the numbers of the documents that have a term
abbrev pub postings : SegmentValue → Term → List ℕ
postings segment term = numbers_where (λ d. has segment.schema d.value term) 0 segment.documents

-- the positions of a text among tokens
abbrev pub positions_among : List ℕ → List (ℕ × List ℕ) → List ℕ
positions_among text tokens = map (λ t. t.0) (filter (is_token text) tokens)

-- the tokens of a document in a field
abbrev pub document_tokens : List Field → ℕ → DocumentValue → List (ℕ × List ℕ)
document_tokens schema field document =
    option_map_or (λ kind. tokens_of kind (value_in_field document field)) (kind_at schema field) []

-- the positions of a text, as a term, in each of the documents that have it; another value has none
abbrev pub positions_of : SegmentValue → Term → FieldValue → List (List ℕ)
positions_of segment term (values.Text text) =
    map (λ d. positions_among text (document_tokens segment.schema term.field d.value))
    (filter (λ d. has segment.schema d.value term) segment.documents)
positions_of segment term (values.Texts texts) = []
positions_of segment term (values.Number n) = []

abbrev pub positions : SegmentValue → Term → List (List ℕ)
positions segment term = positions_of segment term term.value

-- the number of a value in a field of this kind, if it has one, as a column stores it: an i64 as the u64 of its order
abbrev pub number_in : Kind → FieldValue → Option ℕ
number_in kinds.U64 (values.Number (numbers.U64 n)) = Some n
number_in kinds.I64 (values.Number (numbers.I64 z)) = Some (u64_of z)
number_in kinds.Text value = None
number_in kinds.Keyword value = None
number_in kinds.U64 value = None
number_in kinds.I64 value = None

abbrev pub number_of : Kind → Option FieldValue → Option ℕ
number_of kind value = option_and_then (number_in kind) value

-- the numbers of the documents in a field
abbrev pub column : SegmentValue → ℕ → List (Option ℕ)
column segment field =
    map (λ d. option_and_then (λ kind. number_of kind (value_in_field d.value field)) (kind_at segment.schema field))
    segment.documents

-- the distinct texts of the documents in a keyword field, in the order of their bytes
abbrev pub keywords : SegmentValue → ℕ → List (List ℕ)
keywords segment field =
    option_map_or (λ kind. texts_of kind (values_in field segment.documents)) (kind_at segment.schema field) []

-- the ordinals of the documents in a keyword field: the number of distinct texts before a document's own
abbrev pub ordinals : SegmentValue → ℕ → List (Option ℕ)
ordinals segment field =
    option_map_or (λ kind. ordinals_of kind (values_in field segment.documents)) (kind_at segment.schema field) []

-- a segment without documents
abbrev pub no_documents : List Field → SegmentValue
no_documents schema = record { schema = schema; documents = [] }

-- the state of a builder: the segment so far, and whether it is for merging
pub record BuilderValue : Type 0 where
  pub segment : SegmentValue
  pub merging : Bool
