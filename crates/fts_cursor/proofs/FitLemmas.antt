-- What documents that fit a schema have in a field is of the field's kind.
use Rattle.std.proofs.Common.{◌≡◌, ℕ, zero, suc, true, List, [], ◌∷◌, Option, Some, None, subst, All, IfSome, get_or}
use Rattle.std.specs.Prelude.{option_and_then, slice_get}
use Rattle.std.specs.Str.{bytes_eq}
use Rattle.std.proofs.lemmas.Bool.{and_parts}
use Rattle.std.proofs.lemmas.Option.{get_or_from_slice_get, slice_get_within}
use Rattle.fts_model.specs.declared.schema.Kind.{Kind}
use Rattle.fts_model.specs.declared.schema.Field.{Field}
use Rattle.fts_model.specs.declared.value.FieldValue.{FieldValue}
use Rattle.fts_model.specs.declared.operation.Stamped.{Stamped}
use Rattle.fts_model.specs.Documents.{DocumentValue, AreValuesOf, IsDocument, fits, fits_fields, is_of_kind, may_stand, value_in_field}
use Rattle.fts_model.specs.Operations.{kind_at}
use Rattle.fts_segment.specs.Segments.{SegmentValue}

-- each document has a value of a kind in a field, or none
abbrev pub AreOfKind : Kind → ℕ → List (Stamped DocumentValue) → Type 0
AreOfKind kind field documents = All (λ d. IfSome (value_in_field d.value field) (λ v. is_of_kind kind v ≡ true)) documents

-- what may stand in a field is of its kind
stands_of_kind : (there field : Field) (v : Option FieldValue) (kind : Kind) → may_stand (Some there) field v ≡ true → there.kind ≡ kind →
    IfSome v (λ v. is_of_kind kind v ≡ true)
stands_of_kind there field None kind stands same = tt
stands_of_kind there field (Some v) kind stands same =
    let P : Kind → Type 0 = λ k. is_of_kind k v ≡ true in
    subst P same (and_parts (bytes_eq field.name there.name) (is_of_kind there.kind v) stands).1

-- each of values that fit a schema is of the kind of the field of its number
field_of_kind : (schema fields : List Field) (vs : List (Option FieldValue)) (field : ℕ) (kind : Kind) → AreValuesOf fields vs →
    fits_fields schema fields vs ≡ true →
    kind_at schema field ≡ Some kind → IfSome (option_and_then (λ v. v) (slice_get vs field)) (λ v. is_of_kind kind v ≡ true)
field_of_kind schema [] [] field kind are fit known = tt
field_of_kind schema [] (v ∷ vs) field kind are fit known = absurd are
field_of_kind schema (f ∷ fs) [] field kind are fit known = absurd are
field_of_kind [] (f ∷ fs) (v ∷ vs) field kind are fit known = let no : None ≡ Some kind = known in cc
field_of_kind (s ∷ ss) (f ∷ fs) (v ∷ vs) zero kind are fit known =
    let there : Some s.kind ≡ Some kind = known in
    stands_of_kind s f v kind (and_parts (may_stand (Some s) f v) (fits_fields ss fs vs) fit).0 (cc)
field_of_kind (s ∷ ss) (f ∷ fs) (v ∷ vs) (suc field) kind are fit known =
    field_of_kind ss fs vs field kind are.1 (and_parts (may_stand (Some s) f v) (fits_fields ss fs vs) fit).1 known

-- so are those of documents that fit it
pub are_of_kind : (segment : SegmentValue) (field : ℕ) (kind : Kind) → All (λ d. IsDocument d.value) segment.documents →
    All (λ d. fits segment.schema d.value ≡ true) segment.documents → kind_at segment.schema field ≡ Some kind → AreOfKind kind field segment.documents
are_of_kind segment field kind documents fit known k d within =
    let at : Stamped DocumentValue = get_or segment.documents k d in
    field_of_kind segment.schema at.value.schema at.value.values field kind (documents k d within).1 (fit k d within) known

-- and that of the document of a number, if there is one
pub of_kind_at : (kind : Kind) (field : ℕ) (documents : List (Stamped DocumentValue)) → AreOfKind kind field documents → (d : ℕ)
    (e : Stamped DocumentValue) → slice_get documents d ≡ Some e → IfSome (value_in_field e.value field) (λ v. is_of_kind kind v ≡ true)
of_kind_at kind field documents are d e at =
    subst (λ (x : Stamped DocumentValue). IfSome (value_in_field x.value field) (λ v. is_of_kind kind v ≡ true))
    (get_or_from_slice_get documents d e e at) (are d e (slice_get_within documents d e at))
