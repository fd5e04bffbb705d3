-- Fields and values side by side: the next field takes the value that is read for it.
use Rattle.std.proofs.Common.{◌≡◌, ℕ, zero, suc, ◌+◌, ◌<◌, ◌&&◌, cond, true, false, List, [], ◌∷◌, ◌++◌, length, take, drop, get_or, Option, None, refl}
use Rattle.std.proofs.Common.{sym, ap, ap₂, ◌∙◌, subst}
use Rattle.std.specs.Prelude.{slice_get}
use Rattle.std.specs.Option.{option_and_then}
use Rattle.std.proofs.lemmas.List.{drop_more, take_more}
use Rattle.std.proofs.Math.Numerals.{add-one}
use Rattle.std.proofs.Math.Seq.{drop-nil}
use Rattle.serde_json.specs.Data.{Members}
use Rattle.fts_model.specs.declared.schema.Field.{Field}
use Rattle.fts_model.specs.declared.value.FieldValue.{FieldValue}
use Rattle.fts_model.specs.Documents.{with_value, with_values, may_stand, fits_fields, CanHave, AreValuesOf}
use Rattle.fts_model.specs.Restricted.{is_among, value_among, values_among}

-- what takes the next of a list of values, which is none at its end, takes what is read there
next_value : {R : Type 0} (F : List (Option FieldValue) → R) (G : Option FieldValue → List (Option FieldValue) → R) → F [] ≡ G None [] →
    ((v : Option FieldValue) (vs : List (Option FieldValue)) → F (v ∷ vs) ≡ G v vs) →
    (vs : List (Option FieldValue)) (i : ℕ) → F (drop i vs) ≡ G (option_and_then (λ v. v) (slice_get vs i)) (drop (suc i) vs)
next_value F G none some [] i = ap F (drop-nil i) ∙ none ∙ sym (ap (G None) (drop-nil (suc i)))
next_value F G none some (v ∷ vs) zero = some v vs
next_value F G none some (v ∷ vs) (suc i) = next_value F G none some vs i

-- the fields from one on
fields_from : (fields : List Field) (i : ℕ) (field : Field) → i < length fields → field ≡ get_or fields i field → drop i fields ≡ field ∷ drop (i + 1) fields
fields_from fields i field lt is = drop_more fields i field lt ∙ ap (λ f. f ∷ drop (i + 1) fields) (sym is)

-- no values add no member
no_values : (ms : Members) (fields : List Field) → with_values ms fields [] ≡ ms
no_values ms [] = refl
no_values ms (field ∷ fields) = refl

-- the next field adds the value that is read for it
pub with_values-next : (ms : Members) (fields : List Field) (vs : List (Option FieldValue)) (i : ℕ) (field : Field) → i < length fields →
    field ≡ get_or fields i field → with_values ms (drop i fields) (drop i vs)
    ≡ with_values (with_value ms field (option_and_then (λ v. v) (slice_get vs i))) (drop (i + 1) fields) (drop (i + 1) vs)
with_values-next ms fields vs i field lt is =
    let rest = drop (i + 1) fields in
    ap (λ fs. with_values ms fs (drop i vs)) (fields_from fields i field lt is)
    ∙ next_value (with_values ms (field ∷ rest)) (λ v ws. with_values (with_value ms field v) rest ws) (sym (no_values ms rest)) (λ v ws. refl) vs i
    ∙ ap (λ n. with_values (with_value ms field (option_and_then (λ v. v) (slice_get vs i))) rest (drop n vs)) (sym (add-one i))

-- no value is among names
none_among : (names : List (List ℕ)) (field : Field) → value_among names field None ≡ None
none_among names field = elim (is_among names field) as (λ b. ◌≡◌ {A = Option FieldValue} (cond b None None) None) [ true ↦ refl | false ↦ refl ]

-- no values are among names
no_values_among : (names : List (List ℕ)) (fields : List Field) → values_among names fields [] ≡ []
no_values_among names [] = refl
no_values_among names (field ∷ fields) = refl

-- the next field adds the value that is read for it, if it is among names
pub with_values-next_among : (names : List (List ℕ)) (ms : Members) (fields : List Field) (vs : List (Option FieldValue)) (i : ℕ) (field : Field) →
    i < length fields → field ≡ get_or fields i field → with_values ms (drop i fields) (values_among names (drop i fields) (drop i vs))
    ≡ with_values (with_value ms field (value_among names field (option_and_then (λ v. v) (slice_get vs i)))) (drop (i + 1) fields)
    (values_among names (drop (i + 1) fields) (drop (i + 1) vs))
with_values-next_among names ms fields vs i field lt is =
    let rest = drop (i + 1) fields in
    ap (λ fs. with_values ms fs (values_among names fs (drop i vs))) (fields_from fields i field lt is)
    ∙ next_value (λ ws. with_values ms (field ∷ rest) (values_among names (field ∷ rest) ws))
    (λ v ws. with_values (with_value ms field (value_among names field v)) rest (values_among names rest ws))
    (sym (ap₂ (λ v ws. with_values (with_value ms field v) rest ws) (none_among names field) (no_values_among names rest) ∙ no_values ms rest))
    (λ v ws. refl) vs i
    ∙ ap (λ n. with_values (with_value ms field (value_among names field (option_and_then (λ v. v) (slice_get vs i)))) rest (values_among names rest (drop n vs)))
    (sym (add-one i))

-- no values fit
nothing_fits : (schema fields : List Field) → fits_fields schema fields [] ≡ true
nothing_fits schema [] = refl
nothing_fits schema (field ∷ fields) = refl

-- the values fit if the one that is read for the next field does, and the others do
pub fits_fields-next : (schema fields : List Field) (vs : List (Option FieldValue)) (i : ℕ) (field : Field) → i < length fields →
    field ≡ get_or fields i field → fits_fields schema (drop i fields) (drop i vs)
    ≡ may_stand (slice_get schema 0) field (option_and_then (λ v. v) (slice_get vs i)) && fits_fields (drop 1 schema) (drop (i + 1) fields) (drop (i + 1) vs)
fits_fields-next schema fields vs i field lt is =
    let rest = drop (i + 1) fields in
    ap (λ fs. fits_fields schema fs (drop i vs)) (fields_from fields i field lt is)
    ∙ next_value (fits_fields schema (field ∷ rest)) (λ v ws. may_stand (slice_get schema 0) field v && fits_fields (drop 1 schema) rest ws)
    (sym (nothing_fits (drop 1 schema) rest)) (λ v ws. refl) vs i
    ∙ ap (λ n. may_stand (slice_get schema 0) field (option_and_then (λ v. v) (slice_get vs i)) && fits_fields (drop 1 schema) rest (drop n vs)) (sym (add-one i))

-- the values of a list of fields with one more field and a value of it
one_more : (fields : List Field) (vs : List (Option FieldValue)) (field : Field) (value : Option FieldValue) → AreValuesOf fields vs →
    CanHave field.kind value → AreValuesOf (fields ++ field ∷ []) (vs ++ value ∷ [])
one_more [] [] field value h can = (can, tt)
one_more [] (v ∷ vs) field value h can = absurd h
one_more (f ∷ fields) [] field value h can = absurd h
one_more (f ∷ fields) (v ∷ vs) field value h can = (h.0, one_more fields vs field value h.1 can)

-- the values of the first fields with one more, a value of the next field
pub values_more : (fields : List Field) (i : ℕ) (field : Field) (vs : List (Option FieldValue)) (value : Option FieldValue) →
    i < length fields → field ≡ get_or fields i field → AreValuesOf (take i fields) vs → CanHave field.kind value →
    AreValuesOf (take (i + 1) fields) (vs ++ value ∷ [])
values_more fields i field vs value lt is h can =
    subst (λ fs. AreValuesOf fs (vs ++ value ∷ [])) (ap (λ f. take i fields ++ f ∷ []) is ∙ sym (take_more fields i field lt))
    (one_more (take i fields) vs field value h can)
