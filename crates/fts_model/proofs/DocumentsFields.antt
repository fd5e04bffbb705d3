-- The fields of a schema by their names, and the members of an object without a fault.
use Rattle.std.proofs.Common.{◌≡◌, ℕ, suc, zero, Bool, true, false, cond, not, List, [], ◌∷◌, ◌++◌, Option, Some, None, refl, sym, ap, ◌∙◌, subst, ◌≤◌, length, arith}
use Rattle.std.proofs.Common.{Ordering, Less, Equal, Greater, nat_cmp, bytes_eq}
use Rattle.std.proofs.lemmas.Slice.Eq.{bytes_eq-Decides}
use Rattle.std.proofs.lemmas.Map.Lookups.{exact_bytes}
use Rattle.std.specs.Cmp.Lexicographic.{slice_cmp}
use Rattle.std.specs.Ordering.{match_ordering}
use Rattle.std.specs.List.{find, list_any, slice_get}
use Rattle.std.proofs.lemmas.Bool.{ltb-false, or_parts, or_from}
use Rattle.serde_json.specs.Data.{Data, Members, no_members, member}
use Rattle.serde_json.specs.Find.{get_member}
use Rattle.fts_base.specs.declared.refusal.Refusal.{Refusal}
use Rattle.fts_base.specs.declared.refusal.Refusal.TheVariants.{BadName, NameTwice, TooManyFields}
use Rattle.fts_model.specs.declared.schema.Field.{Field}
use Rattle.fts_base.specs.Results.{first_of, error_if_err}
use Rattle.fts_model.specs.Schemas.{is_name, is_named, field_fault, first_fault, schema_fault}
use Rattle.fts_model.specs.Documents.{value_in, fault_in_field, member_fault, members_fault}

-- if the first of two faults is none, each of them is none
pub none_of_two : (x y : Option Refusal) → first_of x y ≡ None → (x ≡ None) × (y ≡ None)
none_of_two None y h = (refl, h)
none_of_two (Some e) y h = cc

-- a field without a fault has no name of an earlier field
second_test : (a b : Bool) (r : Option Refusal) → cond (not a) (Some BadName) (cond b (Some NameTwice) r) ≡ None → b ≡ false
second_test true true r h = cc
second_test true false r h = refl
second_test false b r h = cc

-- no earlier field has the name of a field without a fault
pub not_taken : (before : List Field) (field : Field) → field_fault before field ≡ None → list_any (is_named field.name) before ≡ false
not_taken before field h = second_test (is_name field.name) (list_any (is_named field.name) before) _ h

-- if no member of a list with one more passes, none of the list passes, and the one does not
pub none_of_more : (p : Field → Bool) (xs : List Field) (y : Field) → list_any p (xs ++ y ∷ []) ≡ false → (list_any p xs ≡ false) × (p y ≡ false)
none_of_more p [] y h = (refl, (or_parts (p y) false h).0)
none_of_more p (x ∷ xs) y h =
    let here = or_parts (p x) (list_any p (xs ++ y ∷ [])) h in
    let rest = none_of_more p xs y here.1 in
    (or_from (p x) (list_any p xs) here.0 rest.0, rest.1)

-- no earlier field has the name of one of the fields without a fault
pub others_before : (before fields : List Field) → first_fault before fields ≡ None →
    (k : ℕ) (field : Field) → slice_get fields k ≡ Some field → list_any (is_named field.name) before ≡ false
others_before before [] h k field e = cc
others_before before (f ∷ fs) h zero field e =
    let same : f ≡ field = cc in
    subst (λ (g : Field). list_any (is_named g.name) before ≡ false) same (not_taken before f (none_of_two _ _ h).0)
others_before before (f ∷ fs) h (suc k) field e =
    (none_of_more (is_named field.name) before f (others_before (before ++ f ∷ []) fs (none_of_two _ _ h).1 k field e)).0

-- a field that has the name is found
found_at : (b : Bool) (f : Field) (r : Option Field) (g : Field) → b ≡ true → f ≡ g → cond b (Some f) r ≡ Some g
found_at true f r g h e = ap Some e
found_at false f r g h e = cc

-- a field without a fault is found by its name
found_itself : (before fields : List Field) → first_fault before fields ≡ None →
    (k : ℕ) (field : Field) → slice_get fields k ≡ Some field → find (is_named field.name) fields ≡ Some field
found_itself before [] h k field e = cc
found_itself before (f ∷ fs) h zero field e =
    let same : f ≡ field = cc in
    found_at (bytes_eq f.name field.name) f _ field ((bytes_eq-Decides f.name field.name).1 (ap (λ (g : Field). g.name) same)) same
found_itself before (f ∷ fs) h (suc k) field e =
    let other = (none_of_more (is_named field.name) before f (others_before (before ++ f ∷ []) fs (none_of_two _ _ h).1 k field e)).1 in
    ap (λ b. cond b (Some f) (find (is_named field.name) fs)) other ∙ found_itself (before ++ f ∷ []) fs (none_of_two _ _ h).1 k field e

-- the fields are not too many if that is no fault
few_enough : (b : Bool) (r : Option Refusal) → cond b (Some TooManyFields) r ≡ None → b ≡ false
few_enough true r h = cc
few_enough false r h = refl

-- a schema's fields are at most 32
pub at_most_32 : (fields : List Field) → schema_fault fields ≡ None → length fields ≤ 32
at_most_32 [] h = omega arith
at_most_32 (f ∷ fs) h = let few : length fs ≤ 31 = ltb-false 31 (length fs) (few_enough _ _ h) in omega (arith, few)

-- what is left if the fields are not too many
no_fault_left : (b : Bool) (r : Option Refusal) → cond b (Some TooManyFields) r ≡ None → r ≡ None
no_fault_left true r h = cc
no_fault_left false r h = h

-- the fields of a schema have no fault
pub no_field_fault : (fields : List Field) → schema_fault fields ≡ None → first_fault [] fields ≡ None
no_field_fault [] h = refl
no_field_fault (f ∷ fs) h = no_fault_left _ _ h

-- each field of a schema is found by its name
pub find_by_name : (fields : List Field) → schema_fault fields ≡ None →
    (k : ℕ) (field : Field) → slice_get fields k ≡ Some field → find (is_named field.name) fields ≡ Some field
find_by_name fields h = found_itself [] fields (no_field_fault fields h)

-- a member that is found has no fault, by the order of its name and the first one's
member_at : (fields : List Field) (name key : List ℕ) (value found : Data) (rest : Option Data) (o : Ordering) →
    slice_cmp nat_cmp name key ≡ o → match_ordering o rest (Some value) rest ≡ Some found →
    member_fault fields key value ≡ None → (rest ≡ Some found → member_fault fields name found ≡ None) →
    member_fault fields name found ≡ None
member_at fields name key value found rest Less c e here more = more e
member_at fields name key value found rest Equal c e here more =
    let same : value ≡ found = cc in
    subst (λ (v : Data). member_fault fields name v ≡ None) same
    (subst (λ (k : List ℕ). member_fault fields k value ≡ None) (sym (exact_bytes name key c)) here)
member_at fields name key value found rest Greater c e here more = more e

-- a member of an object without a fault has none
member_without_fault : (fields : List Field) (ms : Members) → members_fault fields ms ≡ None →
    (name : List ℕ) (value : Data) → get_member name ms ≡ Some value → member_fault fields name value ≡ None
member_without_fault fields no_members h name value e = cc
member_without_fault fields (member key other ms) h name value e =
    let both = none_of_two (member_fault fields key other) (members_fault fields ms) h in
    member_at fields name key other value (get_member name ms) (slice_cmp nat_cmp name key) refl e both.0
    (λ r. member_without_fault fields ms both.1 name value r)

-- the value of the member with a field's name, in an object without a fault, is a value of the field
pub value_without_fault : (fields : List Field) (ms : Members) → schema_fault fields ≡ None → members_fault fields ms ≡ None →
    (k : ℕ) (field : Field) (value : Data) → slice_get fields k ≡ Some field → get_member field.name ms ≡ Some value →
    error_if_err (value_in field.kind value) ≡ None
value_without_fault fields ms valid h k field value at e =
    ap (λ f. fault_in_field f value) (sym (find_by_name fields valid k field at)) ∙ member_without_fault fields ms h field.name value e
