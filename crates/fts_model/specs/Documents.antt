-- Documents: a value or none for each field of a schema, and how a JSON value becomes one.
use Rattle.std.specs.Prelude.{◌≡◌, ℕ, ◌^◌, ℤ, pos, negsuc, ◌&&◌, nat_le, nat_lt, Bool, true, false, List, [], ◌∷◌}
use Rattle.std.specs.Prelude.{length, map, Result, Ok, Err, Option, Some, None, IfSome, AllPairs, drop, if◌then◌else◌}
use Rattle.std.specs.Prelude.{not, option_map, option_and_then, slice_get, sum_by}
use Rattle.std.specs.List.{AllZip, find}
use Rattle.std.specs.Str.{bytes_eq}
use Rattle.std.specs.Ordering.{nat_cmp}
use Rattle.std.specs.Cmp.Lexicographic.{slice_cmp}
use Rattle.std.specs.declared.cmp.Ordering.TheVariants.{Less}
use Rattle.std.specs.Option.{ok_or}
use Rattle.serde_json.specs.Data.{Num, unsigned, Data, null, boolean, number, string, array, object, Members}
use Rattle.serde_json.specs.Data.{Items, no_items, item, no_members, member, put}
use Rattle.serde_json.specs.View.{items_of}
use Rattle.serde_json.specs.Find.{as_u64, as_i64, of_integer, get_member}
use Rattle.fts_base.specs.declared.refusal.Refusal.{Refusal}
use Rattle.fts_base.specs.declared.refusal.Refusal.TheVariants.{NotAnObject, UnknownField, WrongKind, TextTooLong}
use Rattle.fts_base.specs.declared.refusal.Refusal.TheVariants.{KeywordTooLong, TooManyTexts}
use Rattle.fts_model.specs.declared.value.Number.TheVariants as numbers
use Rattle.fts_model.specs.declared.schema.Kind.{Kind}
use Rattle.fts_model.specs.declared.schema.Kind.TheVariants as kinds
use Rattle.fts_model.specs.declared.schema.Field.{Field}
use Rattle.fts_model.specs.declared.value.FieldValue.{FieldValue}
use Rattle.fts_model.specs.declared.value.FieldValue.TheVariants as values
use Rattle.fts_base.specs.Results.{value_if_ok, error_if_err, ok_unless, first_of}
use Rattle.fts_model.specs.Limits.{longest_keyword, longest_text, most_texts}
use Rattle.fts_model.specs.Schemas.{schema_fault, is_named}

-- a document: the fields of its schema, and a value or none for each
pub record DocumentValue : Type 0 where
  pub schema : List Field
  pub values : List (Option FieldValue)

-- whether the value can be a term or a bound in a field of this kind
abbrev pub is_term_of : Kind → FieldValue → Bool
is_term_of kinds.Text (values.Text text) = true
is_term_of kinds.Keyword (values.Text text) = true
is_term_of kinds.U64 (values.Number (numbers.U64 n)) = true
is_term_of kinds.I64 (values.Number (numbers.I64 n)) = true
is_term_of kinds.Text value = false
is_term_of kinds.Keyword value = false
is_term_of kinds.U64 value = false
is_term_of kinds.I64 value = false

-- whether a field of this kind can hold the value: a text field holds lists of texts too
abbrev pub is_of_kind : Kind → FieldValue → Bool
is_of_kind kinds.Text (values.Texts texts) = true
is_of_kind kinds.Text value = is_term_of kinds.Text value
is_of_kind kinds.Keyword value = is_term_of kinds.Keyword value
is_of_kind kinds.U64 value = is_term_of kinds.U64 value
is_of_kind kinds.I64 value = is_term_of kinds.I64 value

-- the value of a field of this kind for a JSON string: a text of at most 1,048,576 bytes, or a keyword of at most 256
abbrev pub text_in : Kind → List ℕ → Result (Option FieldValue) Refusal
text_in kinds.Text text = if nat_le (length text) longest_text then Ok (Some (values.Text text)) else Err TextTooLong
text_in kinds.Keyword text =
    if nat_le (length text) longest_keyword then Ok (Some (values.Text text)) else Err KeywordTooLong
text_in kinds.U64 text = Err WrongKind
text_in kinds.I64 text = Err WrongKind

-- the value of a field of this kind for a JSON number: a whole number in the range of the kind
abbrev pub number_in : Kind → Num → Result (Option FieldValue) Refusal
number_in kinds.Text n = Err WrongKind
number_in kinds.Keyword n = Err WrongKind
number_in kinds.U64 n = ok_or (option_map (λ x. Some (values.Number (numbers.U64 x))) (as_u64 n)) WrongKind
number_in kinds.I64 n = ok_or (option_map (λ x. Some (values.Number (numbers.I64 x))) (as_i64 n)) WrongKind

-- the texts of a JSON array, if each member is a text
abbrev pub strings_in : Items → Option (List (List ℕ))
strings_in no_items = Some []
strings_in (item (string text) items) = option_map (λ texts. text ∷ texts) (strings_in items)
strings_in (item value items) = None

-- the total bytes of texts
abbrev pub bytes_of : List (List ℕ) → ℕ
bytes_of texts = sum_by length texts

-- a list of texts as a value; an empty list is none
abbrev pub some_texts : List (List ℕ) → Option FieldValue
some_texts [] = None
some_texts (text ∷ texts) = Some (values.Texts (text ∷ texts))

-- the value of a text field for a list of texts: at most 1,024 texts, of at most 1,048,576 bytes together
abbrev pub texts_in : List (List ℕ) → Result (Option FieldValue) Refusal
texts_in texts =
    if nat_lt most_texts (length texts) then Err TooManyTexts
    else if nat_le (bytes_of texts) longest_text then Ok (some_texts texts) else Err TextTooLong

-- the value of a field of this kind for a JSON array
abbrev pub list_in : Kind → Option (List (List ℕ)) → Result (Option FieldValue) Refusal
list_in kinds.Text (Some texts) = texts_in texts
list_in kinds.Text None = Err WrongKind
list_in kinds.Keyword texts = Err WrongKind
list_in kinds.U64 texts = Err WrongKind
list_in kinds.I64 texts = Err WrongKind

-- the value of a field of this kind for a JSON value; null is no value
abbrev pub value_in : Kind → Data → Result (Option FieldValue) Refusal
value_in kind null = Ok None
value_in kind (string text) = text_in kind text
value_in kind (number n) = number_in kind n
value_in kind (boolean b) = Err WrongKind
value_in kind (array items) = list_in kind (strings_in items)
value_in kind (object ms) = Err WrongKind

-- the fault of a JSON value in a field; a field that does not exist is a fault
abbrev pub fault_in_field : Option Field → Data → Option Refusal
fault_in_field None value = Some UnknownField
fault_in_field (Some field) value = error_if_err (value_in field.kind value)

-- the fault of one member of an object
abbrev pub member_fault : List Field → List ℕ → Data → Option Refusal
member_fault fields name value = fault_in_field (find (is_named name) fields) value

-- the names of members, in their order
abbrev pub member_names : Members → List (List ℕ)
member_names no_members = []
member_names (member name value members) = name ∷ member_names members

-- the names of an object's members are in the order of their bytes
abbrev pub NamesRise : Members → Type 0
NamesRise members = AllPairs (λ a b. slice_cmp nat_cmp a b ≡ Less) (member_names members)

-- the first fault of the members of an object, in the order of their names
abbrev pub members_fault : List Field → Members → Option Refusal
members_fault fields no_members = None
members_fault fields (member name value members) =
    first_of (member_fault fields name value) (members_fault fields members)

-- the value of a field: the value of the member with its name
abbrev pub value_at : Members → Field → Option FieldValue
value_at members field =
    option_and_then (λ value. option_and_then (λ v. v) (value_if_ok (value_in field.kind value)))
    (get_member field.name members)

-- the document of a JSON value under a schema, or the first refusal
abbrev pub document_of : List Field → Data → Result DocumentValue Refusal
document_of fields (object ms) =
    ok_unless (members_fault fields ms) (record { schema = fields; values = map (value_at ms) fields })
document_of fields null = Err NotAnObject
document_of fields (string text) = Err NotAnObject
document_of fields (number n) = Err NotAnObject
document_of fields (boolean b) = Err NotAnObject
document_of fields (array items) = Err NotAnObject

-- a value as JSON
abbrev pub data_of : FieldValue → Data
data_of (values.Text text) = string text
data_of (values.Texts texts) = array (items_of (map string texts))
data_of (values.Number (numbers.U64 n)) = number (unsigned n)
data_of (values.Number (numbers.I64 z)) = number (of_integer z)

-- the members with a field's value added, if it has one
abbrev pub with_value : Members → Field → Option FieldValue → Members
with_value ms field None = ms
with_value ms field (Some v) = put field.name (data_of v) ms

-- the members with the values of those fields that have one added
abbrev pub with_values : Members → List Field → List (Option FieldValue) → Members
with_values ms [] vs = ms
with_values ms (field ∷ fields) [] = ms
with_values ms (field ∷ fields) (v ∷ vs) = with_values (with_value ms field v) fields vs

-- a document as JSON: an object of the fields that have a value, in the order of their names
abbrev pub json_of : DocumentValue → Data
json_of document = object (with_values no_members document.schema document.values)

-- whether a number is in the range of signed 64-bit integers
abbrev pub fits_i64 : ℤ → Bool
fits_i64 (pos n) = nat_lt n (2 ^ 63)
fits_i64 (negsuc n) = nat_lt n (2 ^ 63)

-- whether a field of this kind can have the value
abbrev pub is_value_of : Kind → FieldValue → Bool
is_value_of kinds.Text (values.Text text) = nat_le (length text) longest_text
is_value_of kinds.Text (values.Texts []) = false
is_value_of kinds.Text (values.Texts (text ∷ texts)) =
    not (nat_lt most_texts (length (text ∷ texts))) && nat_le (bytes_of (text ∷ texts)) longest_text
is_value_of kinds.Keyword (values.Text text) = nat_le (length text) longest_keyword
is_value_of kinds.U64 (values.Number (numbers.U64 n)) = nat_lt n (2 ^ 64)
is_value_of kinds.I64 (values.Number (numbers.I64 z)) = fits_i64 z
is_value_of kinds.Text value = false
is_value_of kinds.Keyword value = false
is_value_of kinds.U64 value = false
is_value_of kinds.I64 value = false

-- a field of this kind can have no value, or one of its kind
abbrev pub CanHave : Kind → Option FieldValue → Type 0
CanHave kind value = IfSome value (λ v. is_value_of kind v ≡ true)

-- there is a value or none for each field, and each field can have its value
abbrev pub AreValuesOf : List Field → List (Option FieldValue) → Type 0
AreValuesOf fields vs = AllZip (λ field value. CanHave field.kind value) fields vs

-- every document has a schema as its fields, and for each field no value or one that the field can have
abbrev pub IsDocument : DocumentValue → Type 0
IsDocument document = (schema_fault document.schema ≡ None) × AreValuesOf document.schema document.values

-- whether a value of one field may be in another: the names are equal, and the other's kind allows the value
abbrev pub may_stand : Option Field → Field → Option FieldValue → Bool
may_stand there field None = true
may_stand None field (Some v) = false
may_stand (Some there) field (Some v) = bytes_eq field.name there.name && is_of_kind there.kind v

-- whether each field that has a value is in a schema, at the same number, under the same name and for such a value
abbrev pub fits_fields : List Field → List Field → List (Option FieldValue) → Bool
fits_fields schema [] vs = true
fits_fields schema (field ∷ fields) [] = true
fits_fields schema (field ∷ fields) (v ∷ vs) =
    may_stand (slice_get schema 0) field v && fits_fields (drop 1 schema) fields vs

-- a document fits a schema: each field that has a value is a field of the schema, by number, name and kind of value
abbrev pub fits : List Field → DocumentValue → Bool
fits schema document = fits_fields schema document.schema document.values

-- the value of the field of this number, if it has one
abbrev pub value_in_field : DocumentValue → ℕ → Option FieldValue
value_in_field document field = option_and_then (λ v. v) (slice_get document.values field)
