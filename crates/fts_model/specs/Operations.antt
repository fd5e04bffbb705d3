-- The effect of operations on documents.
use Rattle.std.specs.Prelude.{◌≢◌, ℕ, ◌==◌, ◌<◌, ◌&&◌, not, nat_lt, Bool, true, false, List, [], ◌∷◌, ◌++◌, Option}
use Rattle.std.specs.Prelude.{Some, None, Result, Ok, Err, if◌then◌else◌, slice_get, map, option_map, AllPairs}
use Rattle.std.specs.Ordering.{int_eq}
use Rattle.std.specs.List.{list_any}
use Rattle.std.specs.Option.{ok_or, option_map_or}
use Rattle.std.specs.Str.{bytes_eq}
use Rattle.serde_json.specs.Data.{Data, string}
use Rattle.fts_text.specs.Tokens.{tokens, tokens_of_texts}
use Rattle.fts_base.specs.declared.refusal.Refusal.{Refusal}
use Rattle.fts_base.specs.declared.refusal.Refusal.TheVariants.{UnknownField, WrongKind}
use Rattle.fts_model.specs.declared.schema.Kind.{Kind}
use Rattle.fts_model.specs.declared.schema.Kind.TheVariants as kinds
use Rattle.fts_model.specs.declared.schema.Field.{Field}
use Rattle.fts_model.specs.declared.value.Number.TheVariants as numbers
use Rattle.fts_model.specs.declared.value.FieldValue.{FieldValue}
use Rattle.fts_model.specs.declared.value.FieldValue.TheVariants as values
use Rattle.fts_model.specs.declared.operation.Term.{Term}
use Rattle.fts_model.specs.declared.operation.Op.{Op}
use Rattle.fts_model.specs.declared.operation.Op.TheVariants.{Add, Delete, DeleteAll}
use Rattle.fts_model.specs.declared.operation.Stamped.{Stamped}
use Rattle.fts_base.specs.Results.{result_and_then, result_map}
use Rattle.fts_model.specs.Schemas.{field_named}
use Rattle.fts_model.specs.Documents.{DocumentValue, value_in, value_in_field, is_term_of, fits}

-- the kind of the field of this number, if there is one
abbrev pub kind_at : List Field → ℕ → Option Kind
kind_at schema field = option_map (λ f. f.kind) (slice_get schema field)

-- the value of a keyword or number field for a JSON value; null is refused
abbrev pub some_value_in : Kind → Data → Result FieldValue Refusal
some_value_in kind value = result_and_then (λ v. ok_or v WrongKind) (value_in kind value)

-- the value of a term in a field of this kind: in a text field a token of any length, and else a value of the field
abbrev pub term_value : Kind → Data → Result FieldValue Refusal
term_value kinds.Text (string token) = Ok (values.Text token)
term_value kinds.Text value = Err WrongKind
term_value kinds.Keyword value = some_value_in kinds.Keyword value
term_value kinds.U64 value = some_value_in kinds.U64 value
term_value kinds.I64 value = some_value_in kinds.I64 value

-- the term of a JSON value in the field of this number
abbrev pub term_at : List Field → ℕ → Data → Result Term Refusal
term_at schema field value =
    option_map_or (λ kind. result_map (λ v. record { field = field; value = v }) (term_value kind value))
    (kind_at schema field) (Err UnknownField)

-- the term of a JSON value in the field of this name
abbrev pub term_of : List Field → List ℕ → Data → Result Term Refusal
term_of schema name value =
    option_map_or (λ field. term_at schema field value) (field_named name schema) (Err UnknownField)

-- whether a term fits a schema: its value is of its field's kind
abbrev pub term_fits : List Field → Term → Bool
term_fits schema term = option_map_or (λ kind. is_term_of kind term.value) (kind_at schema term.field) false

-- the stamps of operations or of documents
abbrev pub stamps_of : List (Stamped Op) → List ℕ
stamps_of ops = map (λ s. s.stamp) ops

-- an operation fits a schema: its document fits, or its term's value is of its field's kind
abbrev pub op_fits : List Field → Op → Bool
op_fits schema (Add document) = fits schema document
op_fits schema (Delete term) = term_fits schema term
op_fits schema DeleteAll = true

-- some numbered token has this text
abbrev pub has_token : List (ℕ × List ℕ) → List ℕ → Bool
has_token ts token = list_any (λ t. bytes_eq t.1 token) ts

-- a value of a field of this kind has a term: a text or a list of texts contains it as a token, a keyword or a number
-- equals it
abbrev pub value_has : Kind → FieldValue → FieldValue → Bool
value_has kinds.Text (values.Text text) (values.Text token) = has_token (tokens text) token
value_has kinds.Text (values.Texts texts) (values.Text token) = has_token (tokens_of_texts 0 texts) token
value_has kinds.Keyword (values.Text text) (values.Text whole) = bytes_eq text whole
value_has kinds.U64 (values.Number (numbers.U64 n)) (values.Number (numbers.U64 m)) = n == m
value_has kinds.I64 (values.Number (numbers.I64 n)) (values.Number (numbers.I64 m)) = int_eq n m
value_has kinds.Text value term = false
value_has kinds.Keyword value term = false
value_has kinds.U64 value term = false
value_has kinds.I64 value term = false

-- the value of a field has a term, if there is such a field and it has a value
abbrev pub field_has : Option Field → Option FieldValue → FieldValue → Bool
field_has None value term = false
field_has (Some field) None term = false
field_has (Some field) (Some value) term = value_has field.kind value term

-- a document has a term: a text of its field contains the token, or its keyword or number equals it
abbrev pub has : List Field → DocumentValue → Term → Bool
has schema document term = field_has (slice_get schema term.field) (value_in_field document term.field) term.value

-- an operation deletes a document: a delete of a term that it has, or a delete of all
abbrev pub strikes : List Field → Op → DocumentValue → Bool
strikes schema (Add added) document = false
strikes schema (Delete term) document = has schema document term
strikes schema DeleteAll document = true

-- some of the operations delete a document
abbrev pub is_struck : List Field → List (Stamped Op) → DocumentValue → Bool
is_struck schema later document = list_any (λ op. strikes schema op.value document) later

-- the document that an operation leaves if later operations follow: the one that it adds, unless one of these deletes
-- it
abbrev pub left_by : List Field → ℕ → Op → List (Stamped Op) → List (Stamped DocumentValue)
left_by schema stamp (Add document) later =
    if is_struck schema later document then [] else record { stamp = stamp; value = document } ∷ []
left_by schema stamp (Delete term) later = []
left_by schema stamp DeleteAll later = []

-- the documents that operations leave, in the order of their stamps: each that is added and not deleted by a later
-- operation
abbrev pub alive : List Field → List (Stamped Op) → List (Stamped DocumentValue)
alive schema [] = []
alive schema (op ∷ ops) = left_by schema op.stamp op.value ops ++ alive schema ops

-- the operations that add these documents
abbrev pub adds : List (Stamped DocumentValue) → List (Stamped Op)
adds documents = map (λ d. record { stamp = d.stamp; value = Add d.value }) documents

-- no stamp occurs twice
abbrev pub HasEachStampOnce : {X : Type 0} → List (Stamped X) → Type 0
HasEachStampOnce stamped = AllPairs (λ x y. x.stamp ≢ y.stamp) stamped

-- each stamp is below those after it
abbrev pub StampsRise : {X : Type 0} → List (Stamped X) → Type 0
StampsRise stamped = AllPairs (λ x y. x.stamp < y.stamp) stamped

-- an operation of a later stamp deletes a document
abbrev pub strikes_later : List Field → Stamped Op → Stamped DocumentValue → Bool
strikes_later schema op document = nat_lt document.stamp op.stamp && strikes schema op.value document.value

-- no operation of a later stamp deletes a document
abbrev pub survives : List Field → List (Stamped Op) → Stamped DocumentValue → Bool
survives schema ops document = not (list_any (λ op. strikes_later schema op document) ops)

-- the document that an operation adds, if it adds one
abbrev pub added_by : ℕ → Op → List (Stamped DocumentValue)
added_by stamp (Add document) = record { stamp = stamp; value = document } ∷ []
added_by stamp (Delete term) = []
added_by stamp DeleteAll = []

-- the documents that operations add
abbrev pub added : List (Stamped Op) → List (Stamped DocumentValue)
added [] = []
added (op ∷ ops) = added_by op.stamp op.value ++ added ops
