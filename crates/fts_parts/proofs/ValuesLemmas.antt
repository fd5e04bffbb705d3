-- The numbers of documents, as they are and as a column keeps them.
use Rattle.std.proofs.Common.{◌≡◌, ℕ, ◌+◌, ◌-◌, ◌^◌, ◌<◌, ◌≤◌, nat_lt, true, false, cond, ⊎_elim, List, [], length, map, Option, Some, None, refl, sym, ap}
use Rattle.std.proofs.Common.{subst, ◌∙◌, arith, All, IfSome, get_or, option_map}
use Rattle.std.specs.Prelude.{ℤ, pos, negsuc, slice_get, slice_index_or, option_and_then}
use Rattle.std.specs.List.{filter_map, cons_option}
use Rattle.std.proofs.lemmas.Bool.{ltb-true, lt-ltb, le-ltb, cases_lt}
use Rattle.std.proofs.lemmas.Option.{slice_get-get_or, slice_get_past}
use Rattle.std.proofs.lemmas.List.{get_or_past, length-map, get_or-map}
use Rattle.fts_model.specs.declared.schema.Kind.{Kind}
use Rattle.fts_model.specs.declared.schema.Kind.TheVariants as kinds
use Rattle.fts_model.specs.declared.value.FieldValue.{FieldValue}
use Rattle.fts_model.specs.declared.value.FieldValue.TheVariants as values
use Rattle.fts_model.specs.declared.value.Number.{Number}
use Rattle.fts_model.specs.declared.value.Number.TheVariants as numbers
use Rattle.fts_model.specs.declared.operation.Stamped.{Stamped}
use Rattle.fts_model.specs.Schemas.{holds_numbers}
use Rattle.fts_model.specs.Documents.{DocumentValue, CanHave, value_in_field, fits_i64}
use Rattle.fts_model.specs.Operations.{kind_at}
use Rattle.fts_model.specs.Answers.{number_in_value, number_in_field}
use Rattle.fts_pack.specs.bits.Signed.{u64_of, i64_of}
use Rattle.fts_segment.specs.Segments.{SegmentValue, number_of, column}
use Rattle.fts_parts.specs.Tallies.{number_at}

-- numbers that omega finds equal
moved : (n : ℕ) → n + 2 ^ 63 - 2 ^ 63 ≡ n
moved n = omega arith

back_again : (n : ℕ) → n < 2 ^ 63 → 2 ^ 63 - 1 - (2 ^ 63 - 1 - n) ≡ n
back_again n h = omega (arith, h)

-- a signed number comes back from its place
pub signed_back : (z : ℤ) → fits_i64 z ≡ true → i64_of (u64_of z) ≡ z
signed_back (pos n) fits =
    let above : nat_lt (n + 2 ^ 63) (2 ^ 63) ≡ false = le-ltb (n + 2 ^ 63) (2 ^ 63) (omega arith) in
    ap (λ b. cond b (negsuc (2 ^ 63 - 1 - (n + 2 ^ 63))) (pos (n + 2 ^ 63 - 2 ^ 63))) above ∙ ap pos (moved n)
signed_back (negsuc n) fits =
    let within : n < 2 ^ 63 = ltb-true n (2 ^ 63) fits in
    let below : nat_lt (2 ^ 63 - 1 - n) (2 ^ 63) ≡ true = lt-ltb (2 ^ 63 - 1 - n) (2 ^ 63) (omega arith) in
    ap (λ b. cond b (negsuc (2 ^ 63 - 1 - (2 ^ 63 - 1 - n))) (pos (2 ^ 63 - 1 - n - 2 ^ 63))) below ∙ ap negsuc (back_again n within)

-- what a column keeps of a value is its number
number_kept : (kind : Kind) (value : Option FieldValue) → holds_numbers kind ≡ true → CanHave kind value →
    option_and_then number_in_value value ≡ option_map (number_at kind) (number_of kind value)
number_kept kinds.Text value h can = cc
number_kept kinds.Keyword value h can = cc
number_kept kinds.U64 None h can = refl
number_kept kinds.U64 (Some (values.Text text)) h can = cc
number_kept kinds.U64 (Some (values.Texts texts)) h can = cc
number_kept kinds.U64 (Some (values.Number (numbers.U64 n))) h can = refl
number_kept kinds.U64 (Some (values.Number (numbers.I64 z))) h can = cc
number_kept kinds.I64 None h can = refl
number_kept kinds.I64 (Some (values.Text text)) h can = cc
number_kept kinds.I64 (Some (values.Texts texts)) h can = cc
number_kept kinds.I64 (Some (values.Number (numbers.U64 n))) h can = cc
number_kept kinds.I64 (Some (values.Number (numbers.I64 z))) h can = ap (λ x. Some (numbers.I64 x)) (sym (signed_back z can))

-- and has 64 bits
pub number_fits : (kind : Kind) (value : Option FieldValue) → CanHave kind value → IfSome (number_of kind value) (λ x. x < 2 ^ 64)
number_fits kind None can = tt
number_fits kinds.Text (Some (values.Text text)) can = tt
number_fits kinds.Text (Some (values.Texts texts)) can = tt
number_fits kinds.Text (Some (values.Number n)) can = tt
number_fits kinds.Keyword (Some (values.Text text)) can = tt
number_fits kinds.Keyword (Some (values.Texts texts)) can = tt
number_fits kinds.Keyword (Some (values.Number n)) can = tt
number_fits kinds.U64 (Some (values.Text text)) can = tt
number_fits kinds.U64 (Some (values.Texts texts)) can = tt
number_fits kinds.U64 (Some (values.Number (numbers.U64 n))) can = ltb-true n (2 ^ 64) can
number_fits kinds.U64 (Some (values.Number (numbers.I64 z))) can = tt
number_fits kinds.I64 (Some (values.Text text)) can = tt
number_fits kinds.I64 (Some (values.Texts texts)) can = tt
number_fits kinds.I64 (Some (values.Number (numbers.U64 n))) can = tt
number_fits kinds.I64 (Some (values.Number (numbers.I64 (pos n)))) can = let within = ltb-true n (2 ^ 63) can in omega (arith, within)
number_fits kinds.I64 (Some (values.Number (numbers.I64 (negsuc n)))) can = omega arith

-- a document of a number has in a field what the column keeps there
pub kept_at : (segment : SegmentValue) (field : ℕ) (kind : Kind) (doc : ℕ) → kind_at segment.schema field ≡ Some kind → holds_numbers kind ≡ true →
    All (λ d. CanHave kind (value_in_field d.value field)) segment.documents →
    option_and_then (λ d. number_in_field d.value field) (slice_get segment.documents doc)
    ≡ option_map (number_at kind) (slice_index_or (column segment field) doc None)
kept_at segment field kind doc known h can =
    let documents = segment.documents in
    let d : Stamped DocumentValue = record { stamp = 0; value = record { schema = []; values = [] } } in
    let f : Stamped DocumentValue → Option ℕ = λ d. option_and_then (λ kind. number_of kind (value_in_field d.value field)) (kind_at segment.schema field) in
    let g : Stamped DocumentValue → Option Number = λ d. number_in_field d.value field in
    ⊎_elim
    (λ (inside : doc < length documents).
    let x = get_or documents doc d in
    ap (option_and_then g) (slice_get-get_or documents doc d inside)
    ∙ number_kept kind (value_in_field x.value field) h (can doc d inside)
    ∙ ap (λ (o : Option Kind). option_map (number_at kind) (option_and_then (λ kind. number_of kind (value_in_field x.value field)) o)) (sym known)
    ∙ ap (option_map (number_at kind)) (sym (get_or-map f documents doc d None inside)))
    (λ (past : length documents ≤ doc).
    ap (option_and_then g) (slice_get_past documents doc past)
    ∙ ap (option_map (number_at kind)) (sym (get_or_past (map f documents) doc None (omega (arith, length-map documents f, past)))))
    (cases_lt doc (length documents))

-- what a column keeps has 64 bits
pub fits_at : (segment : SegmentValue) (field : ℕ) (kind : Kind) (doc : ℕ) → kind_at segment.schema field ≡ Some kind →
    All (λ d. CanHave kind (value_in_field d.value field)) segment.documents → IfSome (slice_index_or (column segment field) doc None) (λ x. x < 2 ^ 64)
fits_at segment field kind doc known can =
    let documents = segment.documents in
    let d : Stamped DocumentValue = record { stamp = 0; value = record { schema = []; values = [] } } in
    let f : Stamped DocumentValue → Option ℕ = λ d. option_and_then (λ kind. number_of kind (value_in_field d.value field)) (kind_at segment.schema field) in
    let P : Option ℕ → Type 0 = λ o. IfSome o (λ x. x < 2 ^ 64) in
    ⊎_elim
    (λ (inside : doc < length documents).
    let x = get_or documents doc d in
    let Q : Option Kind → Type 0 = λ o. P (option_and_then (λ kind. number_of kind (value_in_field x.value field)) o) in
    subst P (sym (get_or-map f documents doc d None inside)) (subst Q (sym known) (number_fits kind (value_in_field x.value field) (can doc d inside))))
    (λ (past : length documents ≤ doc). subst P (sym (get_or_past (map f documents) doc None (omega (arith, length-map documents f, past)))) tt)
    (cases_lt doc (length documents))

-- a list that is kept of one that begins with what may be there
pub kept-cons : {X Y : Type 0} (k : X → Option Y) (o : Option X) (rest : List X) →
    filter_map k (cons_option o rest) ≡ cons_option (option_and_then k o) (filter_map k rest)
kept-cons k None rest = refl
kept-cons k (Some x) rest = refl

pub map-cons : {X Y : Type 0} (f : X → Y) (o : Option X) (rest : List X) → map f (cons_option o rest) ≡ cons_option (option_map f o) (map f rest)
map-cons f None rest = refl
map-cons f (Some x) rest = refl
