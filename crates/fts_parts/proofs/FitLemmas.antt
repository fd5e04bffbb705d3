-- What documents that fit a schema have in its fields.
use Rattle.std.proofs.Common.{◌≡◌, ℕ, zero, suc, true, false, List, [], ◌∷◌, Option, Some, None, refl, subst, All, IfSome, get_or, cond}
use Rattle.std.specs.Prelude.{option_and_then, slice_get}
use Rattle.std.specs.Option.{option_map_or}
use Rattle.std.specs.Str.{bytes_eq}
use Rattle.std.proofs.lemmas.Bool.{and_parts}
use Rattle.fts_model.specs.declared.schema.Kind.{Kind}
use Rattle.fts_model.specs.declared.schema.Kind.TheVariants as kinds
use Rattle.fts_model.specs.declared.schema.Field.{Field}
use Rattle.fts_model.specs.declared.value.FieldValue.{FieldValue}
use Rattle.fts_model.specs.declared.value.FieldValue.TheVariants as values
use Rattle.fts_model.specs.declared.value.Number.TheVariants as numbers
use Rattle.fts_model.specs.declared.operation.Stamped.{Stamped}
use Rattle.fts_model.specs.Schemas.{holds_numbers, is_ordered}
use Rattle.fts_model.specs.Documents.{DocumentValue, AreValuesOf, CanHave, IsDocument, fits, fits_fields, is_of_kind, is_value_of, may_stand}
use Rattle.fts_model.specs.Operations.{kind_at}
use Rattle.fts_model.specs.Queries.{is_number_field, is_ordered_field}
use Rattle.fts_segment.specs.Segments.{SegmentValue, column, ordinals}
use Rattle.fts_parts.specs.Collected.{HasValues, column_of}

-- a value of some field that is of the kind of a number field is a value of that
value_can : (kind other : Kind) (v : FieldValue) → holds_numbers kind ≡ true → is_of_kind kind v ≡ true → is_value_of other v ≡ true → is_value_of kind v ≡ true
value_can kinds.Text other v holds is can = cc
value_can kinds.Keyword other v holds is can = cc
value_can kinds.U64 other (values.Text text) holds is can = cc
value_can kinds.U64 other (values.Texts texts) holds is can = cc
value_can kinds.U64 other (values.Number (numbers.I64 z)) holds is can = cc
value_can kinds.U64 kinds.Text (values.Number (numbers.U64 n)) holds is can = cc
value_can kinds.U64 kinds.Keyword (values.Number (numbers.U64 n)) holds is can = cc
value_can kinds.U64 kinds.U64 (values.Number (numbers.U64 n)) holds is can = can
value_can kinds.U64 kinds.I64 (values.Number (numbers.U64 n)) holds is can = cc
value_can kinds.I64 other (values.Text text) holds is can = cc
value_can kinds.I64 other (values.Texts texts) holds is can = cc
value_can kinds.I64 other (values.Number (numbers.U64 n)) holds is can = cc
value_can kinds.I64 kinds.Text (values.Number (numbers.I64 z)) holds is can = cc
value_can kinds.I64 kinds.Keyword (values.Number (numbers.I64 z)) holds is can = cc
value_can kinds.I64 kinds.U64 (values.Number (numbers.I64 z)) holds is can = cc
value_can kinds.I64 kinds.I64 (values.Number (numbers.I64 z)) holds is can = can

-- what may stand in a number field is what it can have
may_can : (there field : Field) (v : Option FieldValue) (kind : Kind) → CanHave field.kind v → may_stand (Some there) field v ≡ true → there.kind ≡ kind →
    holds_numbers kind ≡ true → CanHave kind v
may_can there field None kind can stands same holds = tt
may_can there field (Some v) kind can stands same holds =
    let P : Kind → Type 0 = λ k. is_of_kind k v ≡ true in
    value_can kind field.kind v holds (subst P same (and_parts (bytes_eq field.name there.name) (is_of_kind there.kind v) stands).1) can

-- each of values that fit a schema is one that the number field of its number can have
field_can : (schema fields : List Field) (vs : List (Option FieldValue)) (field : ℕ) (kind : Kind) → AreValuesOf fields vs →
    fits_fields schema fields vs ≡ true →
    kind_at schema field ≡ Some kind → holds_numbers kind ≡ true → CanHave kind (option_and_then (λ v. v) (slice_get vs field))
field_can schema [] [] field kind are fit known holds = tt
field_can schema [] (v ∷ vs) field kind are fit known holds = absurd are
field_can schema (f ∷ fs) [] field kind are fit known holds = absurd are
field_can [] (f ∷ fs) (v ∷ vs) field kind are fit known holds = let no : None ≡ Some kind = known in cc
field_can (s ∷ ss) (f ∷ fs) (v ∷ vs) zero kind are fit known holds =
    let there : Some s.kind ≡ Some kind = known in
    may_can s f v kind are.0 (and_parts (may_stand (Some s) f v) (fits_fields ss fs vs) fit).0 (cc) holds
field_can (s ∷ ss) (f ∷ fs) (v ∷ vs) (suc field) kind are fit known holds =
    field_can ss fs vs field kind are.1 (and_parts (may_stand (Some s) f v) (fits_fields ss fs vs) fit).1 known holds

-- what may stand in a keyword field is a text
may_be_text : (there field : Field) (v : Option FieldValue) → may_stand (Some there) field v ≡ true → there.kind ≡ kinds.Keyword →
    IfSome v (λ v. is_of_kind kinds.Keyword v ≡ true)
may_be_text there field None stands same = tt
may_be_text there field (Some v) stands same =
    let P : Kind → Type 0 = λ k. is_of_kind k v ≡ true in
    subst P same (and_parts (bytes_eq field.name there.name) (is_of_kind there.kind v) stands).1

-- each of values that fit a schema is a text where the field of its number is a keyword field
field_is_text : (schema fields : List Field) (vs : List (Option FieldValue)) (field : ℕ) → AreValuesOf fields vs → fits_fields schema fields vs ≡ true →
    kind_at schema field ≡ Some kinds.Keyword → IfSome (option_and_then (λ v. v) (slice_get vs field)) (λ v. is_of_kind kinds.Keyword v ≡ true)
field_is_text schema [] [] field are fit known = tt
field_is_text schema [] (v ∷ vs) field are fit known = absurd are
field_is_text schema (f ∷ fs) [] field are fit known = absurd are
field_is_text [] (f ∷ fs) (v ∷ vs) field are fit known = let no : None ≡ Some kinds.Keyword = known in cc
field_is_text (s ∷ ss) (f ∷ fs) (v ∷ vs) zero are fit known =
    let there : Some s.kind ≡ Some kinds.Keyword = known in
    may_be_text s f v (and_parts (may_stand (Some s) f v) (fits_fields ss fs vs) fit).0 (cc)
field_is_text (s ∷ ss) (f ∷ fs) (v ∷ vs) (suc field) are fit known =
    field_is_text ss fs vs field are.1 (and_parts (may_stand (Some s) f v) (fits_fields ss fs vs) fit).1 known

-- documents that fit the schema of their segment have numbers and keywords where it says so
pub has_values : (segment : SegmentValue) → All (λ d. IsDocument d.value) segment.documents → All (λ d. fits segment.schema d.value ≡ true) segment.documents →
    HasValues segment
has_values segment documents fit = record {
  numbers = λ field kind known holds k d within.
      let at : Stamped DocumentValue = get_or segment.documents k d in
      field_can segment.schema at.value.schema at.value.values field kind (documents k d within).1 (fit k d within) known holds;
  keywords = λ field known k d within.
      let at : Stamped DocumentValue = get_or segment.documents k d in
      field_is_text segment.schema at.value.schema at.value.values field (documents k d within).1 (fit k d within) known;
}

-- numbers have an order
pub ordered_number : (schema : List Field) (field : ℕ) → is_number_field schema field ≡ true → is_ordered_field schema field ≡ true
ordered_number schema field is =
    elim (kind_at schema field) as (λ k. option_map_or holds_numbers k false ≡ true → option_map_or is_ordered k false ≡ true) [
      | None ↦ λ h. h
      | Some kind ↦ λ h. kind_ordered kind h
    ] is
  where
    kind_ordered : (kind : Kind) → holds_numbers kind ≡ true → is_ordered kind ≡ true
    kind_ordered kinds.Text h = cc
    kind_ordered kinds.Keyword h = refl
    kind_ordered kinds.U64 h = refl
    kind_ordered kinds.I64 h = refl

-- the column of a field whose values have an order
pub column_is : (segment : SegmentValue) (field : ℕ) (found : List (Option ℕ)) → (is_number_field segment.schema field ≡ true → found ≡ column segment field) →
    (is_number_field segment.schema field ≡ false → found ≡ ordinals segment field) → found ≡ column_of segment field
column_is segment field found numbers keywords =
    elim (is_number_field segment.schema field) as (λ b. is_number_field segment.schema field ≡ b → found ≡ cond b (column segment field)
    (ordinals segment field))
    [ true ↦ numbers | false ↦ keywords ] refl
