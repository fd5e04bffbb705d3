-- A document is read back from its JSON, under the schema that it was made under.
use Rattle.std.proofs.Common.{◌≡◌, ℕ, suc, zero, true, false, true≢false, pos, negsuc, cond, List, [], ◌∷◌, ◌++◌, map, Ok, Err, Option, Some, None, refl, sym}
use Rattle.std.proofs.Common.{ap, ◌∙◌, option_map, Ordering, Less, Equal, Greater, nat_cmp, bytes_eq}
use Rattle.std.proofs.lemmas.Bool.{false_from_ne_true, or_parts, or_from}
use Rattle.std.proofs.lemmas.Slice.Eq.{bytes_eq-Decides}
use Rattle.std.proofs.lemmas.Map.Lookups.{exact_bytes}
use Rattle.std.specs.Cmp.Lexicographic.{slice_cmp}
use Rattle.std.specs.Ordering.{match_ordering}
use Rattle.std.specs.List.{find, list_any, slice_get}
use Rattle.std.specs.Option.{option_and_then}
use Rattle.serde_json.specs.View.{items_of}
use Rattle.std.specs.Prelude.{length, nat_le, nat_lt, not, ◌&&◌}
use Rattle.serde_json.specs.Data.{Data, string, Members, no_members, member, put}
use Rattle.serde_json.specs.Find.{get_member}
use Rattle.serde_json.proofs.Views.{get_member-put, get_member-put_other}
use Rattle.fts_base.specs.declared.refusal.Refusal.{Refusal}
use Rattle.fts_base.specs.declared.refusal.Refusal.TheVariants.{TextTooLong, KeywordTooLong, TooManyTexts}
use Rattle.fts_model.specs.declared.schema.Kind.{Kind}
use Rattle.fts_model.specs.declared.schema.Kind.TheVariants as kinds
use Rattle.fts_model.specs.declared.schema.Field.{Field}
use Rattle.fts_model.specs.declared.value.Number.TheVariants as numbers
use Rattle.fts_model.specs.declared.value.FieldValue.{FieldValue}
use Rattle.fts_model.specs.declared.value.FieldValue.TheVariants as values
use Rattle.fts_base.specs.Results.{value_if_ok, error_if_err, first_of}
use Rattle.fts_model.specs.Schemas.{is_named, field_fault, first_fault}
use Rattle.fts_model.specs.Documents.{DocumentValue, bytes_of, list_in, strings_in, texts_in, value_in, fault_in_field, member_fault, members_fault, value_at}
use Rattle.fts_model.specs.Documents.{document_of, data_of, with_value, with_values, json_of, is_value_of, CanHave, AreValuesOf, IsDocument}
use Rattle.fts_model.proofs.DocumentsFields.{none_of_two, not_taken, none_of_more, others_before, no_field_fault, find_by_name}

-- texts are read from their JSON
strings_back : (texts : List (List ℕ)) → strings_in (items_of (map string texts)) ≡ Some texts
strings_back [] = refl
strings_back (text ∷ texts) = ap (option_map (λ ts. text ∷ ts)) (strings_back texts)

-- a list that a text field can have is read from its JSON
list_back : (text : List ℕ) (texts : List (List ℕ)) → (not (nat_lt 1024 (length (text ∷ texts))) && nat_le (bytes_of (text ∷ texts)) 1048576) ≡ true →
    texts_in (text ∷ texts) ≡ Ok (Some (values.Texts (text ∷ texts)))
list_back text texts h =
    elim (nat_lt 1024 (length (text ∷ texts))) as (λ b. (not b && nat_le (bytes_of (text ∷ texts)) 1048576) ≡ true →
    cond b (Err TooManyTexts) (cond (nat_le (bytes_of (text ∷ texts)) 1048576) (Ok (Some (values.Texts (text ∷ texts)))) (Err TextTooLong))
    ≡ Ok (Some (values.Texts (text ∷ texts)))) [
      | true ↦ λ g. cc
      | false ↦ λ g. ap (λ b. cond b (Ok (Some (values.Texts (text ∷ texts)))) (Err TextTooLong)) g
    ] h

-- a value that a field can have is read from its JSON
value_back : (kind : Kind) (v : FieldValue) → is_value_of kind v ≡ true → value_in kind (data_of v) ≡ Ok (Some v)
value_back kinds.Text (values.Text text) h = ap (λ b. cond b (Ok (Some (values.Text text))) (Err TextTooLong)) h
value_back kinds.Text (values.Texts []) h = cc
value_back kinds.Text (values.Texts (text ∷ texts)) h = ap (list_in kinds.Text) (strings_back (text ∷ texts)) ∙ list_back text texts h
value_back kinds.Keyword (values.Texts texts) h = cc
value_back kinds.U64 (values.Texts texts) h = cc
value_back kinds.I64 (values.Texts texts) h = cc
value_back kinds.Keyword (values.Text text) h = ap (λ b. cond b (Ok (Some (values.Text text))) (Err KeywordTooLong)) h
value_back kinds.U64 (values.Number (numbers.U64 n)) h = refl
value_back kinds.I64 (values.Number (numbers.I64 (pos n))) h = rw h refl
value_back kinds.I64 (values.Number (numbers.I64 (negsuc n))) h = refl
value_back kinds.U64 (values.Text text) h = cc
value_back kinds.I64 (values.Text text) h = cc
value_back kinds.Text (values.Number n) h = cc
value_back kinds.Keyword (values.Number n) h = cc
value_back kinds.U64 (values.Number (numbers.I64 z)) h = cc
value_back kinds.I64 (values.Number (numbers.U64 n)) h = cc

-- a value that a field can have is read from its JSON, if there is one
at_back : (field : Field) (value : Option FieldValue) → CanHave field.kind value →
    option_and_then (λ d. option_and_then (λ v. v) (value_if_ok (value_in field.kind d))) (option_map data_of value) ≡ value
at_back field None h = refl
at_back field (Some v) h = ap (λ r. option_and_then (λ w. w) (value_if_ok r)) (value_back field.kind v h)

-- names that differ in a byte are different
apart : (name other : List ℕ) → bytes_eq other name ≡ false → name ≡ other → ⊥
apart name other h e = true≢false (sym ((bytes_eq-Decides other name).1 (sym e)) ∙ h)

-- equality by bytes is symmetric
turned : (name other : List ℕ) → bytes_eq name other ≡ false → bytes_eq other name ≡ false
turned name other h = false_from_ne_true (bytes_eq other name) (λ e. apart other name h ((bytes_eq-Decides other name).0 e))

-- a field of another name adds no member of a given name
put_elsewhere : (name : List ℕ) (ms : Members) (field : Field) (value : Option FieldValue) → is_named name field ≡ false →
    get_member name (with_value ms field value) ≡ get_member name ms
put_elsewhere name ms field None h = refl
put_elsewhere name ms field (Some v) h = get_member-put_other name field.name (data_of v) ms (apart name field.name h)

-- fields of other names add no member of a given name
all_elsewhere : (name : List ℕ) (ms : Members) (fields : List Field) (vs : List (Option FieldValue)) → list_any (is_named name) fields ≡ false →
    get_member name (with_values ms fields vs) ≡ get_member name ms
all_elsewhere name ms [] vs h = refl
all_elsewhere name ms (field ∷ fields) [] h = refl
all_elsewhere name ms (field ∷ fields) (v ∷ vs) h =
    let both = or_parts (is_named name field) (list_any (is_named name) fields) h in
    all_elsewhere name (with_value ms field v) fields vs both.1 ∙ put_elsewhere name ms field v both.0

-- a field adds its value at its name, if no member has that name
put_here : (ms : Members) (field : Field) (value : Option FieldValue) → get_member field.name ms ≡ None →
    get_member field.name (with_value ms field value) ≡ option_map data_of value
put_here ms field None h = h
put_here ms field (Some v) h = get_member-put field.name (data_of v) ms

-- no field has a name, if each has another
none_named : (field : Field) (fields : List Field) → ((k : ℕ) (other : Field) → slice_get fields k ≡ Some other → is_named other.name field ≡ false) →
    list_any (is_named field.name) fields ≡ false
none_named field [] h = refl
none_named field (other ∷ fields) h =
    or_from (is_named field.name other) (list_any (is_named field.name) fields)
    (turned field.name other.name (h zero other refl))
    (none_named field fields (λ k g e. h (suc k) g e))

-- no later field has the name of an earlier one, if the fields have no fault
none_behind : (before : List Field) (field : Field) (fields : List Field) → first_fault (before ++ field ∷ []) fields ≡ None →
    list_any (is_named field.name) fields ≡ false
none_behind before field fields h =
    none_named field fields
    (λ k other e. (none_of_more (is_named other.name) before field (others_before (before ++ field ∷ []) fields h k other e)).1)

-- the members have only names of the fields
OnlyOf : List Field → Members → Type 0
OnlyOf fields ms = (name : List ℕ) → list_any (is_named name) fields ≡ false → get_member name ms ≡ None

-- one more field adds no name but its own
one_more_name : (before : List Field) (ms : Members) (field : Field) (value : Option FieldValue) → OnlyOf before ms →
    OnlyOf (before ++ field ∷ []) (with_value ms field value)
unfolding OnlyOf
one_more_name before ms field value h =
    λ name e. let both = none_of_more (is_named name) before field e in put_elsewhere name ms field value both.1 ∙ h name both.0

-- the fields' values are read from the members that they add
values_back : (ms : Members) (before fields : List Field) (vs : List (Option FieldValue)) → first_fault before fields ≡ None → OnlyOf before ms →
    AreValuesOf fields vs → map (value_at (with_values ms fields vs)) fields ≡ vs
unfolding OnlyOf
values_back ms before [] [] h only can = refl
values_back ms before [] (v ∷ vs) h only can = absurd can
values_back ms before (field ∷ fields) [] h only can = absurd can
values_back ms before (field ∷ fields) (v ∷ vs) h only can =
    let both = none_of_two (field_fault before field) (first_fault (before ++ field ∷ []) fields) h in
    let found : get_member field.name (with_values (with_value ms field v) fields vs) ≡ option_map data_of v =
    all_elsewhere field.name (with_value ms field v) fields vs (none_behind before field fields both.1)
    ∙ put_here ms field v (only field.name (not_taken before field both.0)) in
    let here : value_at (with_values (with_value ms field v) fields vs) field ≡ v =
    ap (option_and_then (λ d. option_and_then (λ v. v) (value_if_ok (value_in field.kind d)))) found ∙ at_back field v can.0 in
    let rest = values_back (with_value ms field v) (before ++ field ∷ []) fields vs both.1 (one_more_name before ms field v only) can.1 in
    λ i. here i ∷ rest i

-- the first of no fault and no fault is none
neither : (x y : Option Refusal) → x ≡ None → y ≡ None → first_of x y ≡ None
neither x y e f = ap (λ z. first_of z y) e ∙ f

-- a member without a fault is inserted among members without a fault, by the order of its name and the first one's
put_at : (fields : List Field) (o : Ordering) (name other : List ℕ) (d e : Data) (ms : Members) → slice_cmp nat_cmp name other ≡ o →
    member_fault fields name d ≡ None → member_fault fields other e ≡ None → members_fault fields ms ≡ None → members_fault fields (put name d ms) ≡ None →
    members_fault fields (match_ordering o (member name d (member other e ms)) (member other d ms) (member other e (put name d ms))) ≡ None
put_at fields Less name other d e ms c one there rest later = neither _ _ one (neither _ _ there rest)
put_at fields Equal name other d e ms c one there rest later =
    neither _ _ (ap (λ k. member_fault fields k d) (sym (exact_bytes name other c)) ∙ one) rest
put_at fields Greater name other d e ms c one there rest later = neither _ _ there later

-- members without a fault have none after a member without a fault is inserted
put_without_fault : (fields : List Field) (name : List ℕ) (d : Data) (ms : Members) → member_fault fields name d ≡ None →
    members_fault fields ms ≡ None → members_fault fields (put name d ms) ≡ None
put_without_fault fields name d no_members one h = neither _ _ one refl
put_without_fault fields name d (member other e ms) one h =
    let both = none_of_two (member_fault fields other e) (members_fault fields ms) h in
    put_at fields (slice_cmp nat_cmp name other) name other d e ms refl one both.0 both.1 (put_without_fault fields name d ms one both.1)

-- members without a fault have none after a field's value is inserted
one_without_fault : (fields : List Field) (ms : Members) (field : Field) (value : Option FieldValue) →
    find (is_named field.name) fields ≡ Some field → CanHave field.kind value → members_fault fields ms ≡ None →
    members_fault fields (with_value ms field value) ≡ None
one_without_fault fields ms field None found can h = h
one_without_fault fields ms field (Some v) found can h =
    put_without_fault fields field.name (data_of v) ms
    (ap (λ there. fault_in_field there (data_of v)) found ∙ ap error_if_err (value_back field.kind v can)) h

-- members without a fault have none after fields insert values that they can have
all_without_fault : (fields : List Field) (ms : Members) (some : List Field) (vs : List (Option FieldValue)) →
    ((k : ℕ) (field : Field) → slice_get some k ≡ Some field → find (is_named field.name) fields ≡ Some field) →
    AreValuesOf some vs → members_fault fields ms ≡ None →
    members_fault fields (with_values ms some vs) ≡ None
all_without_fault fields ms [] vs found can h = h
all_without_fault fields ms (field ∷ some) [] found can h = h
all_without_fault fields ms (field ∷ some) (v ∷ vs) found can h =
    all_without_fault fields (with_value ms field v) some vs (λ k f e. found (suc k) f e) can.1
    (one_without_fault fields ms field v (found zero field refl) can.0 h)

-- a document's JSON is that document, under the document's schema
pub reads_back : (document : DocumentValue) → IsDocument document → document_of document.schema (json_of document) ≡ Ok document
reads_back document h =
    let fields = document.schema in
    let without_fault : members_fault fields (with_values no_members fields document.values) ≡ None =
    all_without_fault fields no_members fields document.values (find_by_name fields h.0) h.1 refl in
    let same : map (value_at (with_values no_members fields document.values)) fields ≡ document.values =
    values_back no_members [] fields document.values (no_field_fault fields h.0) (unfold OnlyOf in λ name e. refl) h.1 in
    rw (without_fault, same) refl
