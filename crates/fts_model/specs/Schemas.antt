-- Schemas: lists of 1 to 32 fields with distinct names.
use Rattle.std.specs.Prelude.{ℕ, ◌==◌, ◌&&◌, ◌||◌, not, nat_le, nat_lt, Bool, false, true, List, [], ◌∷◌, ◌++◌, length}
use Rattle.std.specs.Prelude.{codes, Option, Some, None, if◌then◌else◌, position}
use Rattle.std.specs.Char.{is_ascii_alphabetic, is_ascii_alphanumeric}
use Rattle.std.specs.List.{list_all, list_any}
use Rattle.std.specs.Str.{bytes_eq}
use Rattle.fts_base.specs.declared.refusal.Refusal.{Refusal}
use Rattle.fts_base.specs.declared.refusal.Refusal.TheVariants.{NoFields, TooManyFields, BadName, NameTwice, BadDefault}
use Rattle.fts_model.specs.declared.schema.Kind.{Kind}
use Rattle.fts_model.specs.declared.schema.Kind.TheVariants.{Text, Keyword, U64, I64}
use Rattle.fts_model.specs.declared.schema.Field.{Field}
use Rattle.fts_base.specs.Results.{first_of}

-- a letter or an underscore
abbrev pub starts_name : ℕ → Bool
starts_name b = is_ascii_alphabetic b || b == 95

-- a letter, a digit or an underscore
abbrev pub goes_on_name : ℕ → Bool
goes_on_name b = is_ascii_alphanumeric b || b == 95

-- a word that is reserved by the query language
abbrev pub is_reserved : List ℕ → Bool
is_reserved name = bytes_eq name (codes "AND") || bytes_eq name (codes "OR") || bytes_eq name (codes "NOT")

-- whether a name begins with a letter or an underscore
abbrev pub has_name_start : List ℕ → Bool
has_name_start [] = false
has_name_start (b ∷ bs) = starts_name b

-- a name: `[A-Za-z_][A-Za-z0-9_]*` of at most 32 bytes, and not reserved
abbrev pub is_name : List ℕ → Bool
is_name name = has_name_start name && list_all goes_on_name name && nat_le (length name) 32 && not (is_reserved name)

-- whether a field of this kind holds numbers
abbrev pub holds_numbers : Kind → Bool
holds_numbers Text = false
holds_numbers Keyword = false
holds_numbers U64 = true
holds_numbers I64 = true

-- whether the values of fields of this kind have an order, so that ranges are possible
abbrev pub is_ordered : Kind → Bool
is_ordered Text = false
is_ordered Keyword = true
is_ordered U64 = true
is_ordered I64 = true

-- whether the field has this name
abbrev pub is_named : List ℕ → Field → Bool
is_named name field = bytes_eq field.name name

-- the fault of a field that follows other fields
abbrev pub field_fault : List Field → Field → Option Refusal
field_fault before field =
    if not (is_name field.name) then Some BadName
    else if list_any (is_named field.name) before then Some NameTwice
    else if field.default && holds_numbers field.kind then Some BadDefault
    else None

-- the first fault of fields that follow other fields
abbrev pub first_fault : List Field → List Field → Option Refusal
first_fault before [] = None
first_fault before (field ∷ fields) = first_of (field_fault before field) (first_fault (before ++ field ∷ []) fields)

-- the first fault of a list of fields, if there is one: a schema is a list with none
abbrev pub schema_fault : List Field → Option Refusal
schema_fault [] = Some NoFields
schema_fault (field ∷ fields) =
    if nat_lt 31 (length fields) then Some TooManyFields else first_fault [] (field ∷ fields)

-- the number of the field of this name
abbrev pub field_named : List ℕ → List Field → Option ℕ
field_named name fields = position (is_named name) fields
