-- The distinct texts of a field in the order of their bytes, and the number of those before a text.
use Rattle.std.specs.Prelude.{ℕ, List, [], ◌∷◌, Option, Some, None, length, filter, fold, map, option_map, slice_set}
use Rattle.std.specs.Ordering.{nat_cmp, match_ordering}
use Rattle.std.specs.Cmp.Lexicographic.{slice_cmp}
use Rattle.fts_model.specs.Queries.{text_lt, text_le}
use Rattle.fts_model.specs.declared.schema.Kind.{Kind}
use Rattle.fts_model.specs.declared.schema.Kind.TheVariants as kinds
use Rattle.fts_model.specs.declared.value.FieldValue.{FieldValue}
use Rattle.fts_model.specs.declared.value.FieldValue.TheVariants as values

-- ordered texts with one more, unless it is one of them
abbrev pub with_text : List (List ℕ) → List ℕ → List (List ℕ)
with_text [] text = text ∷ []
with_text (t ∷ ts) text =
    match_ordering (slice_cmp nat_cmp text t) (text ∷ t ∷ ts) (t ∷ ts) (t ∷ with_text ts text)

-- the distinct ones of some texts, in order
abbrev pub in_order : List (List ℕ) → List (List ℕ)
in_order texts = fold with_text [] texts

-- the number of texts before a text (`before`), or not after it (`up_to`)
abbrev pub before : List (List ℕ) → List ℕ → ℕ
before texts text = length (filter (λ t. text_lt t text) texts)

abbrev pub up_to : List (List ℕ) → List ℕ → ℕ
up_to texts text = length (filter (λ t. text_le t text) texts)

-- the text of a value in a keyword field
abbrev pub keyword_of : Kind → Option FieldValue → Option (List ℕ)
keyword_of kinds.Keyword (Some (values.Text text)) = Some text
keyword_of kind value = None

-- the text of a value, if it is one
abbrev pub text_in_value : FieldValue → Option (List ℕ)
text_in_value (values.Text text) = Some text
text_in_value value = None

-- the texts that are present
abbrev pub texts_in : List (Option (List ℕ)) → List (List ℕ)
texts_in [] = []
texts_in (None ∷ ts) = texts_in ts
texts_in (Some t ∷ ts) = t ∷ texts_in ts

-- the distinct texts of values in a keyword field, in order
abbrev pub texts_of : Kind → List (Option FieldValue) → List (List ℕ)
texts_of kind vs = in_order (texts_in (map (keyword_of kind) vs))

-- the ordinal of each value: the number of distinct texts before its own
abbrev pub ordinals_of : Kind → List (Option FieldValue) → List (Option ℕ)
ordinals_of kind vs = map (λ v. option_map (before (texts_of kind vs)) (keyword_of kind v)) vs

-- ordinals of documents, after some documents got this one
abbrev pub with_ordinal : ℕ → List (Option ℕ) → List ℕ → List (Option ℕ)
with_ordinal ordinal ordinals documents = fold (λ given doc. slice_set given doc (Some ordinal)) ordinals documents
