-- What is read under a schema fits it.
use Rattle.std.proofs.Common.{Bool, ◌≡◌, ◌&&◌, ◌∷◌, ◌∙◌, ℕ, true, false, cond, List, [], length, Option, None, Some, Result, Ok, Err, IfOk, map, refl, ap}
use Rattle.std.proofs.Common.{subst, option_map, nat_le, nat_lt}
use Rattle.std.specs.Option.{ok_or, option_and_then, option_map_or}
use Rattle.std.proofs.lemmas.Slice.Eq.{bytes_eq-Decides}
use Rattle.serde_json.specs.Data.{Data, null, boolean, number, string, array, object, Members}
use Rattle.serde_json.specs.Find.{as_u64, as_i64, get_member}
use Rattle.fts_model.specs.declared.schema.Field.{Field}
use Rattle.fts_model.specs.declared.schema.Kind.{Kind}
use Rattle.fts_model.specs.declared.schema.Kind.TheVariants as kinds
use Rattle.fts_model.specs.declared.value.Number.TheVariants as numbers
use Rattle.fts_model.specs.declared.value.FieldValue.{FieldValue}
use Rattle.fts_model.specs.declared.value.FieldValue.TheVariants as values
use Rattle.fts_model.specs.declared.operation.Term.{Term}
use Rattle.fts_model.specs.declared.query.Order.{Order}
use Rattle.fts_model.specs.declared.query.Request.{Request}
use Rattle.fts_model.specs.declared.query.Top.{Top}
use Rattle.fts_base.specs.declared.refusal.Refusal.{Refusal}
use Rattle.fts_base.specs.declared.refusal.Refusal.TheVariants.{WrongKind, TextTooLong, KeywordTooLong, TooManyTexts, UnknownField, NotANumberField, BadLimit}
use Rattle.fts_model.specs.Documents.{DocumentValue, is_of_kind, is_term_of, strings_in, bytes_of, some_texts, list_in, value_in, value_at, members_fault}
use Rattle.fts_model.specs.Documents.{document_of, may_stand, fits_fields, fits}
use Rattle.fts_model.specs.Operations.{kind_at, term_value, term_at, term_of, term_fits}
use Rattle.fts_model.specs.Queries.{is_number_field, is_ordered_field, is_limit, field_of, number_field_named, ordered_field_named, groups_of, top_of}
use Rattle.fts_model.specs.Queries.{request_of, request_fits}
use Rattle.fts_base.specs.Results.{Gives, value_if_ok, ok_unless, result_and_then, result_map}
use Rattle.fts_model.specs.Schemas.{field_named}

-- a value, if there is one, is of a kind
abbrev Holds : Kind → Option FieldValue → Type 0
Holds kind value = option_map_or (is_of_kind kind) value true ≡ true

abbrev flat : Option (Option FieldValue) → Option FieldValue
flat value = option_and_then (λ v. v) value

some_texts_hold : (texts : List (List ℕ)) → Holds kinds.Text (some_texts texts)
some_texts_hold [] = refl
some_texts_hold (text ∷ texts) = refl

lists_hold : (texts : Option (List (List ℕ))) → Holds kinds.Text (flat (value_if_ok (list_in kinds.Text texts)))
lists_hold None = refl
lists_hold (Some texts) =
    elim (nat_lt 1024 (length texts)) as
    (λ b. Holds kinds.Text
    (flat (value_if_ok (cond b (Err TooManyTexts) (cond (nat_le (bytes_of texts) 1048576) (Ok (some_texts texts)) (Err TextTooLong)))))) [
      | true ↦ refl
      | false ↦
          elim (nat_le (bytes_of texts) 1048576) as (λ b. Holds kinds.Text (flat (value_if_ok (cond b (Ok (some_texts texts)) (Err TextTooLong)))))
          [ true ↦ some_texts_hold texts | false ↦ refl ]
    ]

values_hold : (kind : Kind) (d : Data) → Holds kind (flat (value_if_ok (value_in kind d)))
values_hold kind null = refl
values_hold kind (boolean b) = refl
values_hold kind (object ms) = refl
values_hold kinds.Text (array items) = lists_hold (strings_in items)
values_hold kinds.Keyword (array items) = refl
values_hold kinds.U64 (array items) = refl
values_hold kinds.I64 (array items) = refl
values_hold kinds.Text (string text) =
    elim (nat_le (length text) 1048576) as (λ b. Holds kinds.Text (flat (value_if_ok (cond b (Ok (Some (values.Text text))) (Err TextTooLong)))))
    [ true ↦ refl | false ↦ refl ]
values_hold kinds.Keyword (string text) =
    elim (nat_le (length text) 256) as (λ b. Holds kinds.Keyword (flat (value_if_ok (cond b (Ok (Some (values.Text text))) (Err KeywordTooLong)))))
    [ true ↦ refl | false ↦ refl ]
values_hold kinds.U64 (string text) = refl
values_hold kinds.I64 (string text) = refl
values_hold kinds.Text (number n) = refl
values_hold kinds.Keyword (number n) = refl
values_hold kinds.U64 (number n) =
    elim (as_u64 n) as (λ o. Holds kinds.U64 (flat (value_if_ok (ok_or (option_map (λ x. Some (values.Number (numbers.U64 x))) o) WrongKind))))
    [ None ↦ refl | Some x ↦ refl ]
values_hold kinds.I64 (number n) =
    elim (as_i64 n) as (λ o. Holds kinds.I64 (flat (value_if_ok (ok_or (option_map (λ x. Some (values.Number (numbers.I64 x))) o) WrongKind))))
    [ None ↦ refl | Some x ↦ refl ]

values_at_hold : (ms : Members) (f : Field) → Holds f.kind (value_at ms f)
values_at_hold ms f =
    elim (get_member f.name ms) as (λ o. Holds f.kind (option_and_then (λ d. flat (value_if_ok (value_in f.kind d))) o))
    [ None ↦ refl | Some d ↦ values_hold f.kind d ]

stands : (f : Field) (v : Option FieldValue) → Holds f.kind v → may_stand (Some f) f v ≡ true
stands f None h = refl
stands f (Some v) h = ap (λ b. b && is_of_kind f.kind v) ((bytes_eq-Decides f.name f.name).1 refl) ∙ h

fields_stand : (ms : Members) (fs : List Field) → fits_fields fs fs (map (value_at ms) fs) ≡ true
fields_stand ms [] = refl
fields_stand ms (f ∷ fs) = ap (λ b. b && fits_fields fs fs (map (value_at ms) fs)) (stands f (value_at ms f) (values_at_hold ms f)) ∙ fields_stand ms fs

whole : (fields : List Field) (ms : Members) (fault : Option Refusal) (document : DocumentValue) →
    ok_unless fault (record { schema = fields; values = map (value_at ms) fields }) ≡ Ok document → fits fields document ≡ true
whole fields ms (Some fault) document h = cc
whole fields ms None document h =
    let here : DocumentValue = record { schema = fields; values = map (value_at ms) fields } in
    let same : here ≡ document = cc in
    subst (λ d. fits fields d ≡ true) same (fields_stand ms fields)

-- a document fits the schema under which it was read
pub document_fits : (fields : List Field) (d : Data) (document : DocumentValue) → document_of fields d ≡ Ok document → fits fields document ≡ true
document_fits fields null document h = cc
document_fits fields (boolean b) document h = cc
document_fits fields (number n) document h = cc
document_fits fields (string text) document h = cc
document_fits fields (array items) document h = cc
document_fits fields (object ms) document h = whole fields ms (members_fault fields ms) document h

-- a value, if there is one, is a term of a kind
abbrev IsTerm : Kind → Option FieldValue → Type 0
IsTerm kind value = option_map_or (is_term_of kind) value true ≡ true

terms_hold : (kind : Kind) (d : Data) → IsTerm kind (value_if_ok (term_value kind d))
terms_hold kinds.Text (string text) = refl
terms_hold kinds.Text null = refl
terms_hold kinds.Text (boolean b) = refl
terms_hold kinds.Text (number n) = refl
terms_hold kinds.Text (array items) = refl
terms_hold kinds.Text (object ms) = refl
terms_hold kinds.Keyword (string text) =
    elim (nat_le (length text) 256) as
    (λ b. IsTerm kinds.Keyword (value_if_ok (result_and_then (λ v. ok_or v WrongKind) (cond b (Ok (Some (values.Text text))) (Err KeywordTooLong)))))
    [ true ↦ refl | false ↦ refl ]
terms_hold kinds.Keyword null = refl
terms_hold kinds.Keyword (boolean b) = refl
terms_hold kinds.Keyword (number n) = refl
terms_hold kinds.Keyword (array items) = refl
terms_hold kinds.Keyword (object ms) = refl
terms_hold kinds.U64 (string text) = refl
terms_hold kinds.U64 null = refl
terms_hold kinds.U64 (boolean b) = refl
terms_hold kinds.U64 (number n) =
    elim (as_u64 n) as (λ o. IsTerm kinds.U64
    (value_if_ok (result_and_then (λ v. ok_or v WrongKind) (ok_or (option_map (λ x. Some (values.Number (numbers.U64 x))) o) WrongKind))))
    [ None ↦ refl | Some x ↦ refl ]
terms_hold kinds.U64 (array items) = refl
terms_hold kinds.U64 (object ms) = refl
terms_hold kinds.I64 (string text) = refl
terms_hold kinds.I64 null = refl
terms_hold kinds.I64 (boolean b) = refl
terms_hold kinds.I64 (number n) =
    elim (as_i64 n) as (λ o. IsTerm kinds.I64
    (value_if_ok (result_and_then (λ v. ok_or v WrongKind) (ok_or (option_map (λ x. Some (values.Number (numbers.I64 x))) o) WrongKind))))
    [ None ↦ refl | Some x ↦ refl ]
terms_hold kinds.I64 (array items) = refl
terms_hold kinds.I64 (object ms) = refl

made : (schema : List Field) (field : ℕ) (kind : Kind) (value : Result FieldValue Refusal) (term : Term) → kind_at schema field ≡ Some kind →
    IsTerm kind (value_if_ok value) →
    result_map (λ v. record { field = field; value = v }) value ≡ Ok term → term_fits schema term ≡ true
made schema field kind (Err e) term there h is = cc
made schema field kind (Ok v) term there h is =
    let here : Term = record { field = field; value = v } in
    let same : here ≡ term = cc in
    subst (λ t. term_fits schema t ≡ true) same (ap (λ k. option_map_or (λ kind. is_term_of kind v) k false) there ∙ h)

at_field : (schema : List Field) (field : ℕ) (d : Data) (term : Term) → term_at schema field d ≡ Ok term → term_fits schema term ≡ true
at_field schema field d term h =
    elim (kind_at schema field) as (λ k. kind_at schema field ≡ k → option_map_or (λ kind. result_map (λ v. record { field = field; value = v })
    (term_value kind d)) k (Err UnknownField) ≡ Ok term → term_fits schema term ≡ true) [
      | None ↦ λ _ is. cc
      | Some kind ↦ λ there is. made schema field kind (term_value kind d) term there (terms_hold kind d) is
    ] refl h

-- a term fits the schema under which it was read
pub term_of_fits : (schema : List Field) (name : List ℕ) (d : Data) (term : Term) → term_of schema name d ≡ Ok term → term_fits schema term ≡ true
term_of_fits schema name d term h =
    elim (field_named name schema) as (λ o. option_map_or (λ field. term_at schema field d) o (Err UnknownField) ≡ Ok term → term_fits schema term ≡ true)
    [ None ↦ λ is. cc | Some field ↦ λ is. at_field schema field d term is ] h

-- one of these fields, if there is one
abbrev IsOne : (ℕ → Bool) → Option ℕ → Type 0
IsOne is_one field = option_map_or is_one field true ≡ true

named_holds : (is_one : ℕ → Bool) (schema : List Field) (name : List ℕ) → IsOne is_one (value_if_ok (field_of is_one schema name))
named_holds is_one schema name =
    elim (field_named name schema) as
    (λ o. IsOne is_one (value_if_ok (option_map_or (λ field. cond (is_one field) (Ok field) (Err NotANumberField)) o (Err UnknownField)))) [
      | None ↦ refl
      | Some field ↦
          elim (is_one field) as (λ b. is_one field ≡ b → IsOne is_one (value_if_ok (cond b (Ok field) (Err NotANumberField))))
          [ true ↦ λ e. e | false ↦ λ _. refl ] refl
    ]

abbrev TopHolds : List Field → Option Top → Type 0
TopHolds schema top = option_map_or (λ (t : Top). is_number_field schema t.by && is_limit t.k) top true ≡ true

groups_hold : (schema : List Field) (groups : Option (List ℕ)) (field : Option ℕ) → groups_of schema groups ≡ Ok field → IsOne (is_ordered_field schema) field
groups_hold schema None field h = let same : None ≡ field = cc in subst (IsOne (is_ordered_field schema)) same refl
groups_hold schema (Some name) field h =
    let P : Option ℕ → Type 0 = IsOne (is_ordered_field schema) in
    elim (ordered_field_named schema name) as (λ r. P (value_if_ok r) → result_map Some r ≡ Ok field → P field) [
      | Err e ↦ λ _ is. cc
      | Ok n ↦ λ holds is. let same : Some n ≡ field = cc in subst P same holds
    ] (named_holds (is_ordered_field schema) schema name) h

limited : (schema : List Field) (n k : ℕ) (order : Order) (top : Option Top) → is_number_field schema n ≡ true →
    cond (is_limit k) (Ok (Some (record { by = n; k = k; order = order }))) (Err BadLimit) ≡ Ok top → TopHolds schema top
limited schema n k order top holds h =
    let here : Top = record { by = n; k = k; order = order } in
    elim (is_limit k) as (λ b. is_limit k ≡ b → cond b (Ok (Some here)) (Err BadLimit) ≡ Ok top → TopHolds schema top) [
      | true ↦ λ limit is. let same : Some here ≡ top = cc in subst (TopHolds schema) same (ap (λ b. b && is_limit k) holds ∙ limit)
      | false ↦ λ _ is. cc
    ] refl h

top_holds : (schema : List Field) (asked : Option (List ℕ × ℕ × Order)) (top : Option Top) → top_of schema asked ≡ Ok top → TopHolds schema top
top_holds schema None top h = let same : None ≡ top = cc in subst (TopHolds schema) same refl
top_holds schema (Some (name, k, order)) top h =
    elim (number_field_named schema name) as (λ r. IsOne (is_number_field schema) (value_if_ok r) →
    result_and_then (λ field. cond (is_limit k) (Ok (Some (record { by = field; k = k; order = order }))) (Err BadLimit)) r ≡ Ok top → TopHolds schema top) [
      | Err e ↦ λ _ is. cc
      | Ok n ↦ λ holds is. limited schema n k order top holds is
    ] (named_holds (is_number_field schema) schema name) h

parts_fit : (schema : List Field) (groups : Option (List ℕ)) (asked : Option (List ℕ × ℕ × Order)) (request : Request) (g : Result (Option ℕ) Refusal)
    (t : Result (Option Top) Refusal) →
    groups_of schema groups ≡ g → top_of schema asked ≡ t → result_and_then (λ field. result_map (λ list. record { groups = field; top = list }) t) g
    ≡ Ok request → request_fits schema request ≡ true
parts_fit schema groups asked request (Err e) t gs ts h = cc
parts_fit schema groups asked request (Ok field) (Err e) gs ts h = cc
parts_fit schema groups asked request (Ok field) (Ok top) gs ts h =
    let here : Request = record { groups = field; top = top } in
    let same : here ≡ request = cc in
    subst (λ r. request_fits schema r ≡ true) same
    (ap (λ b. b && option_map_or (λ (t : Top). is_number_field schema t.by && is_limit t.k) top true) (groups_hold schema groups field gs) ∙ top_holds schema
    asked top ts)

-- a request fits the schema under which it was read
pub request_of_fits : (schema : List Field) (groups : Option (List ℕ)) (asked : Option (List ℕ × ℕ × Order)) (request : Request) →
    request_of schema groups asked ≡ Ok request →
    request_fits schema request ≡ true
request_of_fits schema groups asked request h = parts_fit schema groups asked request (groups_of schema groups) (top_of schema asked) refl refl h

-- what holds of each value that was wanted holds of what is given
pub if_given : {X : Type 0} (P : X → Type 0) (r wanted : Result X Refusal) → Gives (λ x. x) r wanted → ((x : X) → wanted ≡ Ok x → P x) → IfOk r P
if_given P (Ok x) wanted given h = h x given
if_given P (Err e) wanted given h = tt

pub if_ok : {X : Type 0} (P : X → Type 0) (r : Result X Refusal) → ((x : X) → r ≡ Ok x → P x) → IfOk r P
if_ok P (Ok x) h = h x refl
if_ok P (Err e) h = tt
