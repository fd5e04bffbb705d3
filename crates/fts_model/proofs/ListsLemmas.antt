-- JSON arrays that are lists of texts.
use Rattle.std.proofs.Common.{◌≡◌, ℕ, suc, ◌+◌, ◌-◌, ◌^◌, ◌<◌, ◌≤◌, min, List, [], ◌∷◌, ◌++◌, length, Option, Some, None, refl, sym, ap, subst, ◌∙◌, arith}
use Rattle.std.proofs.Common.{option_map, append_assoc}
use Rattle.std.proofs.lemmas.List.Sums.{sum_by-cons}
use Rattle.serde_json.specs.Data.{Data, null, boolean, number, string, array, object, Items, no_items, item}
use Rattle.serde_json.specs.View.{items_view, view}
use Rattle.serde_json.specs.declared.value.Value.{Value}
use Rattle.std.specs.Prelude.{Bool, true, false, cond, not, ◌&&◌, nat_le, nat_lt, Ok, Err}
use Rattle.std.proofs.lemmas.Bool.{lt-ltb, le-ltb, le-leb, lt-leb}
use Rattle.fts_base.specs.Results.{error_if_err}
use Rattle.fts_base.specs.declared.refusal.Refusal.TheVariants.{TextTooLong, TooManyTexts, WrongKind}
use Rattle.fts_model.specs.declared.schema.Kind.TheVariants as kinds
use Rattle.fts_model.specs.declared.value.FieldValue.TheVariants as values
use Rattle.fts_model.specs.Documents.{bytes_of, is_value_of, list_in, some_texts, strings_in, texts_in}
use Rattle.fts_model.specs.Internals.Lists.{bytes_behind}

-- the bytes of texts that follow others
pub bytes_behind-is : (n : ℕ) (items : Items) → n < 2 ^ 64 → bytes_behind n items ≡ option_map (λ ts. min (n + bytes_of ts) (2 ^ 64 - 1)) (strings_in items)
bytes_behind-is n no_items h = ap Some (omega arith)
bytes_behind-is n (item null items) h = refl
bytes_behind-is n (item (boolean b) items) h = refl
bytes_behind-is n (item (number m) items) h = refl
bytes_behind-is n (item (array is) items) h = refl
bytes_behind-is n (item (object ms) items) h = refl
bytes_behind-is n (item (string text) items) h =
    bytes_behind-is (min (n + length text) (2 ^ 64 - 1)) items (omega arith)
    ∙ (elim (strings_in items) as (λ o. option_map (λ ts. min (min (n + length text) (2 ^ 64 - 1) + bytes_of ts) (2 ^ 64 - 1)) o
    ≡ option_map (λ ts. min (n + bytes_of ts) (2 ^ 64 - 1)) (option_map (λ ts. text ∷ ts) o)) [
      | None ↦ refl
      | Some ts ↦ ap Some (omega (arith, sum_by-cons {X = List ℕ} length text ts))
    ])

-- a list has as many texts as the array has members
strings_count-at : (d : Data) (items : Items) (n : ℕ) (ts : List (List ℕ)) → ((us : List (List ℕ)) → strings_in items ≡ Some us → length us ≡ n) →
    strings_in (item d items) ≡ Some ts → length ts ≡ suc n
strings_count-at null items n ts rest h = cc
strings_count-at (boolean b) items n ts rest h = cc
strings_count-at (number m) items n ts rest h = cc
strings_count-at (array is) items n ts rest h = cc
strings_count-at (object ms) items n ts rest h = cc
strings_count-at (string text) items n ts rest h =
    elim (strings_in items) as (λ o. ((us : List (List ℕ)) → o ≡ Some us → length us ≡ n) → option_map (λ us. text ∷ us) o ≡ Some ts → length ts ≡ suc n) [
      | None ↦ λ _ g. cc
      | Some us ↦ λ r g. let same : text ∷ us ≡ ts = cc in ap length (sym same) ∙ ap suc (r us refl)
    ] rest h

pub strings_count : (vs : List Value) (ts : List (List ℕ)) → strings_in (items_view vs) ≡ Some ts → length ts ≡ length vs
strings_count [] ts h = let none : [] ≡ ts = cc in ap length (sym none)
strings_count (v ∷ vs) ts h = strings_count-at (view v) (items_view vs) (length vs) ts (strings_count vs) h

-- the texts that are read, with one more
pub texts_step : (old new : List (List ℕ)) (d : Data) (items : Items) (ts : List (List ℕ)) → option_map (λ rest. old ++ rest) (strings_in (item d items))
    ≡ Some ts →
    ((text : List ℕ) → d ≡ string text → new ≡ old ++ text ∷ []) → option_map (λ rest. new ++ rest) (strings_in items) ≡ Some ts
texts_step old new null items ts h is = cc
texts_step old new (boolean b) items ts h is = cc
texts_step old new (number m) items ts h is = cc
texts_step old new (array js) items ts h is = cc
texts_step old new (object ms) items ts h is = cc
texts_step old new (string text) items ts h is =
    elim (strings_in items) as (λ o. option_map (λ rest. old ++ rest) (option_map (λ us. text ∷ us) o) ≡ Some ts → option_map (λ rest. new ++ rest) o ≡ Some ts) [
      | None ↦ λ g. cc
      | Some us ↦ λ g. ap (λ xs. Some (xs ++ us)) (is text refl) ∙ ap Some (append_assoc old (text ∷ []) us) ∙ g
    ] h

-- a JSON array in a text field has a fault if a member is no text
pub list_none : (o : Option (List (List ℕ))) → None ≡ option_map (λ ts. min (0 + bytes_of ts) (2 ^ 64 - 1)) o →
    Some WrongKind ≡ error_if_err (list_in kinds.Text o)
list_none None h = refl
list_none (Some ts) h = cc

-- a JSON array in a text field has a fault if it has too many texts
pub list_many : (o : Option (List (List ℕ))) (bytes count : ℕ) → Some bytes ≡ option_map (λ ts. min (0 + bytes_of ts) (2 ^ 64 - 1)) o →
    ((ts : List (List ℕ)) → o ≡ Some ts → length ts ≡ count) →
    1024 < count → Some TooManyTexts ≡ error_if_err (list_in kinds.Text o)
list_many None bytes count h long many = cc
list_many (Some ts) bytes count h long many =
    let most : nat_lt 1024 (length ts) ≡ true = lt-ltb 1024 (length ts) (omega (arith, long ts refl, many)) in
    ap (λ b. error_if_err (cond b (Err TooManyTexts) (cond (nat_le (bytes_of ts) 1048576) (Ok (some_texts ts)) (Err TextTooLong)))) (sym most)

-- a JSON array in a text field has a fault if its texts have too many bytes
pub list_long : (o : Option (List (List ℕ))) (bytes count : ℕ) → Some bytes ≡ option_map (λ ts. min (0 + bytes_of ts) (2 ^ 64 - 1)) o →
    ((ts : List (List ℕ)) → o ≡ Some ts → length ts ≡ count) →
    count ≤ 1024 → 1048576 < bytes → Some TextTooLong ≡ error_if_err (list_in kinds.Text o)
list_long None bytes count h counted few long = cc
list_long (Some ts) bytes count h counted few long =
    let same : bytes ≡ min (0 + bytes_of ts) (2 ^ 64 - 1) = cc in
    let most : nat_lt 1024 (length ts) ≡ false = le-ltb 1024 (length ts) (omega (arith, counted ts refl, few)) in
    let over : nat_le (bytes_of ts) 1048576 ≡ false = lt-leb (bytes_of ts) 1048576 (omega (arith, same, long)) in
    sym (ap (λ b. error_if_err (cond b (Err TooManyTexts) (cond (nat_le (bytes_of ts) 1048576) (Ok (some_texts ts)) (Err TextTooLong)))) most
    ∙ ap (λ b. error_if_err (cond b (Ok (some_texts ts)) (Err TextTooLong))) over)

-- a JSON array in a text field has no fault otherwise
pub list_fine : (o : Option (List (List ℕ))) (bytes count : ℕ) → Some bytes ≡ option_map (λ ts. min (0 + bytes_of ts) (2 ^ 64 - 1)) o →
    ((ts : List (List ℕ)) → o ≡ Some ts → length ts ≡ count) →
    count ≤ 1024 → bytes ≤ 1048576 → None ≡ error_if_err (list_in kinds.Text o)
list_fine None bytes count h counted few short = cc
list_fine (Some ts) bytes count h counted few short =
    let same : bytes ≡ min (0 + bytes_of ts) (2 ^ 64 - 1) = cc in
    let most : nat_lt 1024 (length ts) ≡ false = le-ltb 1024 (length ts) (omega (arith, counted ts refl, few)) in
    let within : nat_le (bytes_of ts) 1048576 ≡ true = le-leb (bytes_of ts) 1048576 (omega (arith, same, short)) in
    sym (ap (λ b. error_if_err (cond b (Err TooManyTexts) (cond (nat_le (bytes_of ts) 1048576) (Ok (some_texts ts)) (Err TextTooLong)))) most
    ∙ ap (λ b. error_if_err (cond b (Ok (some_texts ts)) (Err TextTooLong))) within)

-- the value of an array of texts that isn't empty and has no fault
value_at : (text : List ℕ) (ts : List (List ℕ)) (b c : Bool) → nat_lt 1024 (length (text ∷ ts)) ≡ b → nat_le (bytes_of (text ∷ ts)) 1048576 ≡ c →
    error_if_err (cond b (Err TooManyTexts) (cond c (Ok (Some (values.Texts (text ∷ ts)))) (Err TextTooLong))) ≡ None →
    (texts_in (text ∷ ts) ≡ Ok (Some (values.Texts (text ∷ ts)))) × (is_value_of kinds.Text (values.Texts (text ∷ ts)) ≡ true)
value_at text ts true c e f h = cc
value_at text ts false false e f h = cc
value_at text ts false true e f h = (
  ap (λ b. cond b (Err TooManyTexts) (cond (nat_le (bytes_of (text ∷ ts)) 1048576) (Ok (Some (values.Texts (text ∷ ts)))) (Err TextTooLong))) e
      ∙ ap (λ b. cond b (Ok (Some (values.Texts (text ∷ ts)))) (Err TextTooLong)) f,
  ap (λ b. not b && nat_le (bytes_of (text ∷ ts)) 1048576) e ∙ f,
)

pub list_value : (o : Option (List (List ℕ))) (count : ℕ) (texts : List (List ℕ)) → error_if_err (list_in kinds.Text o) ≡ None →
    ((ts : List (List ℕ)) → o ≡ Some ts → length ts ≡ count) → 0 < count →
    ((ts : List (List ℕ)) → o ≡ Some ts → texts ≡ ts) → (list_in kinds.Text o ≡ Ok (Some (values.Texts texts)))
    × (is_value_of kinds.Text (values.Texts texts) ≡ true)
list_value None count texts h counted some is = cc
list_value (Some []) count texts h counted some is = absurd (omega (arith, counted [] refl, some))
list_value (Some (text ∷ ts)) count texts h counted some is =
    let P : List (List ℕ) → Type 0 = λ us. (list_in kinds.Text (Some (text ∷ ts)) ≡ Ok (Some (values.Texts us)))
    × (is_value_of kinds.Text (values.Texts us) ≡ true) in
    subst P (sym (is (text ∷ ts) refl)) (value_at text ts (nat_lt 1024 (length (text ∷ ts))) (nat_le (bytes_of (text ∷ ts)) 1048576) refl refl h)
