-- Documents restricted to some of their fields.
use Rattle.std.specs.Prelude.{ℕ, Bool, List, [], ◌∷◌, Option, None, if◌then◌else◌}
use Rattle.std.specs.List.{list_any}
use Rattle.std.specs.Str.{bytes_eq}
use Rattle.fts_model.specs.declared.schema.Field.{Field}
use Rattle.fts_model.specs.declared.value.FieldValue.{FieldValue}
use Rattle.fts_model.specs.Documents.{DocumentValue}

-- whether a field has one of these names
abbrev pub is_among : List (List ℕ) → Field → Bool
is_among names field = list_any (bytes_eq field.name) names

-- the value of a field, if the field has one of these names
abbrev pub value_among : List (List ℕ) → Field → Option FieldValue → Option FieldValue
value_among names field value = if is_among names field then value else None

-- the values of the fields that have one of these names, and none for the others
abbrev pub values_among : List (List ℕ) → List Field → List (Option FieldValue) → List (Option FieldValue)
values_among names [] vs = []
values_among names (field ∷ fields) [] = []
values_among names (field ∷ fields) (v ∷ vs) = value_among names field v ∷ values_among names fields vs

-- a document restricted to the fields of these names
abbrev pub restrict : List (List ℕ) → DocumentValue → DocumentValue
restrict names d = record { schema = d.schema; values = values_among names d.schema d.values }
