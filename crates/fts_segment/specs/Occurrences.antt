-- The tokens of the values of a field, one document after the other.
use Rattle.std.specs.Prelude.{ℕ, ◌+◌, ◌^◌, ◌<◌, length, Bool, false, List, [], ◌∷◌, ◌++◌, map, filter, nat_eq, Option}
use Rattle.std.specs.Prelude.{Some, None}
use Rattle.std.specs.List.{dedup}
use Rattle.std.specs.Str.{bytes_eq}
use Rattle.fts_text.specs.Tokens.{tokens, tokens_of_texts}
use Rattle.fts_model.specs.declared.schema.Kind.{Kind}
use Rattle.fts_model.specs.declared.schema.Kind.TheVariants as kinds
use Rattle.fts_model.specs.declared.value.FieldValue.{FieldValue}
use Rattle.fts_model.specs.declared.value.FieldValue.TheVariants as values
use Rattle.fts_model.specs.declared.operation.Stamped.{Stamped}
use Rattle.fts_model.specs.Documents.{DocumentValue, bytes_of, value_in_field}
use Rattle.fts_model.specs.Operations.{value_has}

-- an occurrence of a term in a document at a position
pub record OccurrenceValue : Type 0 where
  pub term : List ℕ
  pub doc : ℕ
  pub position : ℕ

-- a token of a document, with its position, as an occurrence
abbrev pub occurrence_at : ℕ → ℕ × List ℕ → OccurrenceValue
occurrence_at doc token = record { term = token.1; doc = doc; position = token.0 }

-- the tokens of a value, each with its position: those of a text or of a list of texts, or a keyword as one token at 0
abbrev pub value_tokens : Kind → FieldValue → List (ℕ × List ℕ)
value_tokens kinds.Text (values.Text text) = tokens text
value_tokens kinds.Text (values.Texts texts) = tokens_of_texts 0 texts
value_tokens kinds.Keyword (values.Text text) = (0, text) ∷ []
value_tokens kinds.Text value = []
value_tokens kinds.Keyword value = []
value_tokens kinds.U64 value = []
value_tokens kinds.I64 value = []

-- the tokens of a value, if there is one
abbrev pub tokens_of : Kind → Option FieldValue → List (ℕ × List ℕ)
tokens_of kind None = []
tokens_of kind (Some value) = value_tokens kind value

-- the tokens of a value have positions of 32 bits
abbrev pub HasFewTokens : Kind → Option FieldValue → Type 0
HasFewTokens kind value = length (tokens_of kind value) < 2 ^ 32

-- the spans of these texts, numbered from `first`, have numbers of 32 bits
abbrev pub HasRoom : ℕ → List (List ℕ) → Type 0
HasRoom first texts = first + bytes_of texts + length texts + 2 < 2 ^ 32

-- the occurrences of a document's value
abbrev pub occurrences_at : Kind → ℕ → Option FieldValue → List OccurrenceValue
occurrences_at kind doc value = map (occurrence_at doc) (tokens_of kind value)

-- the occurrences of values, the first of document `doc`
abbrev pub occurrences : Kind → ℕ → List (Option FieldValue) → List OccurrenceValue
occurrences kind doc [] = []
occurrences kind doc (v ∷ vs) = occurrences_at kind doc v ++ occurrences kind (doc + 1) vs

-- the values of a field
abbrev pub values_in : ℕ → List (Stamped DocumentValue) → List (Option FieldValue)
values_in field documents = map (λ d. value_in_field d.value field) documents

-- a value of a field of this kind, if there is one, has a term
abbrev pub holds : Kind → FieldValue → Option FieldValue → Bool
holds kind term None = false
holds kind term (Some value) = value_has kind value term

-- a token is a term
abbrev pub is_token : List ℕ → ℕ × List ℕ → Bool
is_token term token = bytes_eq token.1 term

-- an occurrence of a term
abbrev pub is_term : List ℕ → OccurrenceValue → Bool
is_term term occurrence = bytes_eq occurrence.term term

-- the documents of the occurrences of a term, with duplicates
abbrev pub docs_of : List ℕ → List OccurrenceValue → List ℕ
docs_of term os = map (λ o. o.doc) (filter (is_term term) os)

-- the documents of the occurrences of a term, without duplicates
abbrev pub docs_with : List ℕ → List OccurrenceValue → List ℕ
docs_with term os = dedup nat_eq (docs_of term os)
