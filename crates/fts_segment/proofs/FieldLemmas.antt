-- Indexes of fields.
use Rattle.std.proofs.Common.{◌≡◌, ◌+◌, ◌^◌, ◌==◌, ◌<◌, ◌≤◌, ℕ, ℤ, pos, negsuc, suc, zero, Bool, true, false, cond, List, [], ◌∷◌, ◌++◌, Option, Some, None}
use Rattle.std.proofs.Common.{map, length, get_or, refl, sym, ap, subst, ◌∙◌, inl, inr, arith, All, Contains, IfSome, IfNone, MatchOption, take, Bor}
use Rattle.std.proofs.Common.{length-append}
use Rattle.std.specs.Prelude.{slice_get, option_copied, option_map, option_and_then, nat_lt}
use Rattle.std.specs.Ordering.{int_eq}
use Rattle.std.specs.Cmp.{signed_Decides}
use Rattle.std.specs.List.{list_any}
use Rattle.std.specs.Option.{option_map_or}
use Rattle.std.specs.Str.{bytes_eq}
use Rattle.std.proofs.lemmas.Bool.{cases_Bool, eqb-true, ltb-true}
use Rattle.std.proofs.lemmas.Bool.Decides.{nat_tests}
use Rattle.std.proofs.lemmas.Option.{slice_get_within, slice_get-get_or, get_or_from_slice_get}
use Rattle.std.proofs.lemmas.List.{get_or-map, get_or_default, length-map, length-take-le, take_more, map_push}
use Rattle.std.proofs.Math.Bool.{or-false}
use Rattle.fts_model.specs.declared.schema.Field.{Field}
use Rattle.fts_model.specs.declared.schema.Kind.{Kind}
use Rattle.fts_model.specs.declared.schema.Kind.TheVariants as kinds
use Rattle.fts_model.specs.declared.value.FieldValue.{FieldValue}
use Rattle.fts_model.specs.declared.value.FieldValue.TheVariants as values
use Rattle.fts_model.specs.declared.value.Number.{Number}
use Rattle.fts_model.specs.declared.value.Number.TheVariants as numbers
use Rattle.fts_model.specs.declared.operation.Stamped.{Stamped}
use Rattle.fts_model.specs.declared.operation.Term.{Term}
use Rattle.fts_model.specs.Schemas.{holds_numbers}
use Rattle.fts_model.specs.Documents.{DocumentValue, value_in_field, fits_i64}
use Rattle.fts_model.specs.Operations.{has, field_has, kind_at}
use Rattle.fts_pack.specs.bits.Signed.{u64_of}
use Rattle.fts_segment.specs.declared.field_index.FieldIndex.{FieldIndex}
use Rattle.fts_segment.specs.declared.field_index.FieldIndex.TheVariants.{Numbers, Terms, Keywords}
use Rattle.fts_segment.specs.declared.joining.IndexedField.{IndexedField}
use Rattle.fts_segment.specs.declared.dictionary.Dictionary.{Dictionary}
use Rattle.fts_segment.specs.declared.number_index.NumberIndex.{NumberIndex}
use Rattle.fts_segment.specs.Segments.{SegmentValue, postings, column, keywords, ordinals, numbers_where, number_of}
use Rattle.fts_segment.specs.Occurrences.{occurrences, docs_with, is_token, tokens_of, holds, values_in}
use Rattle.fts_segment.specs.Keywords.{ordinals_of, texts_of}
use Rattle.fts_segment.specs.Numbers.{Fits64, is_number, numbers_of}
use Rattle.fts_segment.specs.FieldIndexes.{AreTerms, AreNumbers, IsFieldIndex, IsFieldOf, AreFieldsOf}
use Rattle.fts_segment.proofs.TermsLemmas.{slice_get_push_cases}
use Rattle.fts_segment.proofs.HoldingLemmas.{docs_with-occurrences, numbers_where-cons, numbers_where-map, numbers_where-same, numbers_where-none}
use Rattle.fts_segment.proofs.OccurrencesLemmas.{map-map}
use Rattle.fts_segment.proofs.SegmentLemmas.{found_list, absent_list}

-- these are the indexes of the first fields
pub record AreFirst (segment : SegmentValue) (count : ℕ) (fields : List IndexedField) : Type 0 where
  pub many : length fields ≡ count
  pub each : (number : ℕ) (field : IndexedField) → slice_get fields number ≡ Some field → IsFieldOf segment number field

pub AreFirst-push : {segment : SegmentValue} {count : ℕ} {fields : List IndexedField} (field : IndexedField) → IsFieldOf segment count field →
    AreFirst segment count fields → AreFirst segment (count + 1) (fields ++ field ∷ [])
AreFirst-push {segment} {count} {fields} field is s = record {
  many = omega (arith, length-append fields (field ∷ []), s.many);
  each = λ number one found. elim (slice_get_push_cases fields field number one found) [
    | inl before ↦ s.each number one before
    | inr last ↦
        let place : number ≡ count = last.0 ∙ s.many in
        let P : ℕ × IndexedField → Type 0 = λ x. IsFieldOf segment x.0 x.1 in
        let all : (count, field) ≡ (number, one) = cc in
        subst P all is
  ];
}

-- a value has a text as a term if one of its tokens is the text
pub holds-tokens : (kind : Kind) (text : List ℕ) (v : Option FieldValue) → list_any (is_token text) (tokens_of kind v) ≡ holds kind (values.Text text) v
holds-tokens kind text None = refl
holds-tokens kinds.Text text (Some (values.Text t)) = refl
holds-tokens kinds.Keyword text (Some (values.Text t)) = or-false (bytes_eq t text)
holds-tokens kinds.U64 text (Some (values.Text t)) = refl
holds-tokens kinds.I64 text (Some (values.Text t)) = refl
holds-tokens kinds.Text text (Some (values.Texts ts)) = refl
holds-tokens kinds.Keyword text (Some (values.Texts ts)) = refl
holds-tokens kinds.U64 text (Some (values.Texts ts)) = refl
holds-tokens kinds.I64 text (Some (values.Texts ts)) = refl
holds-tokens kinds.Text text (Some (values.Number n)) = refl
holds-tokens kinds.Keyword text (Some (values.Number n)) = refl
holds-tokens kinds.U64 text (Some (values.Number (numbers.U64 n))) = refl
holds-tokens kinds.U64 text (Some (values.Number (numbers.I64 n))) = refl
holds-tokens kinds.I64 text (Some (values.Number (numbers.U64 n))) = refl
holds-tokens kinds.I64 text (Some (values.Number (numbers.I64 n))) = refl

docs_with-holds : (kind : Kind) (text : List ℕ) (vs : List (Option FieldValue)) →
    docs_with text (occurrences kind 0 vs) ≡ numbers_where (holds kind (values.Text text)) 0 vs
docs_with-holds kind text vs = docs_with-occurrences text kind 0 vs
    ∙ numbers_where-same (λ v. list_any (is_token text) (tokens_of kind v)) (holds kind (values.Text text)) 0 vs
    (λ k d h. holds-tokens kind text (get_or vs k d))

-- no document has a term that is not in the dictionary
pub text_absent : {kind : Kind} {vs : List (Option FieldValue)} {dictionary : Dictionary} (text : List ℕ) → AreTerms kind vs dictionary →
    ((i : ℕ) → slice_get dictionary.names i ≡ Some text → ⊥) →
    numbers_where (holds kind (values.Text text)) 0 vs ≡ []
text_absent {kind} {vs} {dictionary} text a absent = sym (docs_with-holds kind text vs) ∙ absent_list text a.dictionary_is absent

-- a term has the list of its documents
pub text_found : {kind : Kind} {vs : List (Option FieldValue)} {dictionary : Dictionary} (text : List ℕ) (i : ℕ) → AreTerms kind vs dictionary →
    slice_get dictionary.names i ≡ Some text →
    (get_or dictionary.lists i [] ≡ numbers_where (holds kind (values.Text text)) 0 vs) × (get_or dictionary.lists i [] ≡ [] → ⊥)
text_found {kind} {vs} {dictionary} text i a found =
    let list = found_list i text a.dictionary_is found in
    (list.1 ∙ docs_with-holds kind text vs, λ none. list.2 (sym list.1 ∙ none))

-- no text or keyword has a number as a term
number_in_text : (kind : Kind) (n : Number) (v : Option FieldValue) → holds_numbers kind ≡ false → holds kind (values.Number n) v ≡ false
number_in_text kind n None h = refl
number_in_text kinds.Text n (Some (values.Text t)) h = refl
number_in_text kinds.Keyword n (Some (values.Text t)) h = refl
number_in_text kinds.Text n (Some (values.Texts ts)) h = refl
number_in_text kinds.Keyword n (Some (values.Texts ts)) h = refl
number_in_text kinds.Text n (Some (values.Number m)) h = refl
number_in_text kinds.Keyword n (Some (values.Number m)) h = refl
number_in_text kinds.U64 n (Some v) h = absurd (let clash : true ≡ false = h in cc)
number_in_text kinds.I64 n (Some v) h = absurd (let clash : true ≡ false = h in cc)

-- no value has a list of texts as a term
texts_in_value : (kind : Kind) (texts : List (List ℕ)) (v : Option FieldValue) → holds kind (values.Texts texts) v ≡ false
texts_in_value kind texts None = refl
texts_in_value kinds.Text texts (Some (values.Text t)) = refl
texts_in_value kinds.Text texts (Some (values.Texts ts)) = refl
texts_in_value kinds.Text texts (Some (values.Number n)) = refl
texts_in_value kinds.Keyword texts (Some (values.Text t)) = refl
texts_in_value kinds.Keyword texts (Some (values.Texts ts)) = refl
texts_in_value kinds.Keyword texts (Some (values.Number n)) = refl
texts_in_value kinds.U64 texts (Some (values.Text t)) = refl
texts_in_value kinds.U64 texts (Some (values.Texts ts)) = refl
texts_in_value kinds.U64 texts (Some (values.Number (numbers.U64 n))) = refl
texts_in_value kinds.U64 texts (Some (values.Number (numbers.I64 n))) = refl
texts_in_value kinds.I64 texts (Some (values.Text t)) = refl
texts_in_value kinds.I64 texts (Some (values.Texts ts)) = refl
texts_in_value kinds.I64 texts (Some (values.Number (numbers.U64 n))) = refl
texts_in_value kinds.I64 texts (Some (values.Number (numbers.I64 n))) = refl

pub texts_without : (kind : Kind) (vs : List (Option FieldValue)) (texts : List (List ℕ)) → numbers_where (holds kind (values.Texts texts)) 0 vs ≡ []
texts_without kind vs texts = numbers_where-none (holds kind (values.Texts texts)) 0 vs (λ k d h. texts_in_value kind texts (get_or vs k d))

pub text_without : {kind : Kind} {vs : List (Option FieldValue)} {dictionary : Dictionary} (n : Number) → AreTerms kind vs dictionary →
    numbers_where (holds kind (values.Number n)) 0 vs ≡ []
text_without {kind} {vs} n a = numbers_where-none (holds kind (values.Number n)) 0 vs (λ k d h. number_in_text kind n (get_or vs k d) a.kind_is)

eqb-refl_at : (a b : ℕ) → a ≡ b → (a == b) ≡ true
eqb-refl_at a b e = grind (arith, nat_tests)

one_place : (n m : ℤ) → fits_i64 n ≡ true → fits_i64 m ≡ true → u64_of n ≡ u64_of m → n ≡ m
one_place (pos n) (pos m) f g e = ap pos (let same : n ≡ m = omega arith in same)
one_place (pos n) (negsuc m) f g e = absurd (let h : m < 2 ^ 63 = ltb-true m (2 ^ 63) g in omega arith)
one_place (negsuc n) (pos m) f g e = absurd (let h : n < 2 ^ 63 = ltb-true n (2 ^ 63) f in omega arith)
one_place (negsuc n) (negsuc m) f g e =
    let h : m < 2 ^ 63 = ltb-true m (2 ^ 63) g in let i : n < 2 ^ 63 = ltb-true n (2 ^ 63) f in ap negsuc (let same : n ≡ m = omega arith in same)

int_test : (n m : ℤ) → fits_i64 n ≡ true → fits_i64 m ≡ true → (u64_of n == u64_of m) ≡ int_eq n m
int_test n m f g = elim (cases_Bool (int_eq n m)) [
  | inl it_is ↦ eqb-refl_at (u64_of n) (u64_of m) (ap u64_of ((signed_Decides n m).0 it_is)) ∙ sym it_is
  | inr it_isnt ↦ elim (cases_Bool (u64_of n == u64_of m)) [
    | inl equal ↦ absurd (let clash : true ≡ false = sym ((signed_Decides n m).1 (one_place n m f g (eqb-true (u64_of n) (u64_of m) equal))) ∙ it_isnt in cc)
    | inr differ ↦ differ ∙ sym it_isnt
  ]
]

-- a value has a number as a term if it is that number
number_test : (kind : Kind) (term : FieldValue) (x : ℕ) (v : Option FieldValue) → number_of kind (Some term) ≡ Some x → Fits64 kind term →
    IfSome v (Fits64 kind) → holds kind term v ≡ is_number x (number_of kind v)
number_test kind term x None is f g = refl
number_test kinds.U64 (values.Number (numbers.U64 m)) x (Some (values.Number (numbers.U64 n))) is f g = ap (λ k. n == k) (let same : m ≡ x = cc in same)
number_test kinds.I64 (values.Number (numbers.I64 m)) x (Some (values.Number (numbers.I64 n))) is f g =
    sym (int_test n m g f) ∙ ap (λ k. u64_of n == k) (let same : u64_of m ≡ x = cc in same)
number_test kinds.U64 (values.Number (numbers.U64 m)) x (Some (values.Number (numbers.I64 n))) is f g = refl
number_test kinds.I64 (values.Number (numbers.I64 m)) x (Some (values.Number (numbers.U64 n))) is f g = refl
number_test kinds.U64 (values.Number (numbers.U64 m)) x (Some (values.Texts ts)) is f g = refl
number_test kinds.I64 (values.Number (numbers.I64 m)) x (Some (values.Texts ts)) is f g = refl
number_test kinds.U64 (values.Number (numbers.U64 m)) x (Some (values.Text t)) is f g = refl
number_test kinds.I64 (values.Number (numbers.I64 m)) x (Some (values.Text t)) is f g = refl
number_test kinds.U64 (values.Number (numbers.I64 m)) x (Some v) is f g = absurd (let clash : None ≡ Some x = is in cc)
number_test kinds.I64 (values.Number (numbers.U64 m)) x (Some v) is f g = absurd (let clash : None ≡ Some x = is in cc)
number_test kinds.U64 (values.Text t) x (Some v) is f g = absurd (let clash : None ≡ Some x = is in cc)
number_test kinds.U64 (values.Texts ts) x (Some v) is f g = absurd (let clash : None ≡ Some x = is in cc)
number_test kinds.I64 (values.Text t) x (Some v) is f g = absurd (let clash : None ≡ Some x = is in cc)
number_test kinds.I64 (values.Texts ts) x (Some v) is f g = absurd (let clash : None ≡ Some x = is in cc)
number_test kinds.Text (values.Text t) x (Some v) is f g = absurd (let clash : None ≡ Some x = is in cc)
number_test kinds.Text (values.Texts ts) x (Some v) is f g = absurd (let clash : None ≡ Some x = is in cc)
number_test kinds.Keyword (values.Text t) x (Some v) is f g = absurd (let clash : None ≡ Some x = is in cc)
number_test kinds.Keyword (values.Texts ts) x (Some v) is f g = absurd (let clash : None ≡ Some x = is in cc)
number_test kinds.Text (values.Number (numbers.U64 m)) x (Some v) is f g = absurd (let clash : None ≡ Some x = is in cc)
number_test kinds.Keyword (values.Number (numbers.U64 m)) x (Some v) is f g = absurd (let clash : None ≡ Some x = is in cc)
number_test kinds.Text (values.Number (numbers.I64 m)) x (Some v) is f g = absurd (let clash : None ≡ Some x = is in cc)
number_test kinds.Keyword (values.Number (numbers.I64 m)) x (Some v) is f g = absurd (let clash : None ≡ Some x = is in cc)

holders_of : (kind : Kind) (term : FieldValue) (x : ℕ) (vs : List (Option FieldValue)) → number_of kind (Some term) ≡ Some x → Fits64 kind term →
    All (λ v. IfSome v (Fits64 kind)) vs →
    numbers_where (holds kind term) 0 vs ≡ numbers_where (is_number x) 0 (numbers_of kind vs)
holders_of kind term x vs is f fit =
    numbers_where-same (holds kind term) (λ v. is_number x (number_of kind v)) 0 vs (λ k d h. number_test kind term x (get_or vs k d) is f (fit k d h))
    ∙ numbers_where-map (λ v. is_number x (number_of kind v)) (is_number x) (number_of kind) (λ v. refl) 0 vs

pub is_number-is : (x : ℕ) (v : Option ℕ) → is_number x v ≡ true → v ≡ Some x
is_number-is x None h = absurd (let clash : false ≡ true = h in cc)
is_number-is x (Some y) h = ap Some (eqb-true y x h)

-- no document has a number that is not in the index
pub number_absent : {kind : Kind} {vs : List (Option FieldValue)} {index : NumberIndex} (term : FieldValue) (x : ℕ) → AreNumbers kind vs index →
    number_of kind (Some term) ≡ Some x → Fits64 kind term →
    ((i : ℕ) → slice_get index.numbers.items i ≡ Some x → ⊥) → numbers_where (holds kind term) 0 vs ≡ []
number_absent {kind} {vs} {index} term x a is f absent =
    let column = numbers_of kind vs in
    holders_of kind term x vs is f a.fit
    ∙ numbers_where-none (is_number x) 0 column (λ k d h. elim (cases_Bool (is_number x (get_or column k d))) [
      | inl it_is ↦ absurd (let at : Contains column (Some x) = (k, h, get_or_default column k (Some x) d h ∙ is_number-is x (get_or column k d) it_is) in
          let there = a.index_is.whole x at in
          absent there.0 (slice_get-get_or index.numbers.items there.0 x there.1 ∙ ap Some there.2))
      | inr it_isnt ↦ it_isnt
    ])

numbers_where-some : {X : Type 0} (p : X → Bool) (n : ℕ) (xs : List X) (k : ℕ) (d : X) → k < length xs → p (get_or xs k d) ≡ true → numbers_where p n xs ≡ [] →
    ⊥
numbers_where-some p n [] k d h is none = absurd (omega arith)
numbers_where-some p n (x ∷ xs) zero d h is none =
    let clash : n ∷ numbers_where p (n + 1) xs ≡ [] = sym (ap (λ b. cond b (n ∷ numbers_where p (n + 1) xs) (numbers_where p (n + 1) xs)) is)
    ∙ sym (numbers_where-cons p n x xs) ∙ none in cc
numbers_where-some p n (x ∷ xs) (suc k) d h is none = elim (cases_Bool (p x)) [
  | inl it_is ↦ let clash : n ∷ numbers_where p (n + 1) xs ≡ [] = sym (ap (λ b. cond b (n ∷ numbers_where p (n + 1) xs) (numbers_where p (n + 1) xs)) it_is)
      ∙ sym (numbers_where-cons p n x xs) ∙ none in cc
  | inr it_isnt ↦ numbers_where-some p (n + 1) xs k d (omega arith) is
      (sym (ap (λ b. cond b (n ∷ numbers_where p (n + 1) xs) (numbers_where p (n + 1) xs)) it_isnt) ∙ sym (numbers_where-cons p n x xs) ∙ none)
]

-- a number has the list of its documents
pub number_found : {kind : Kind} {vs : List (Option FieldValue)} {index : NumberIndex} (term : FieldValue) (x i : ℕ) → AreNumbers kind vs index →
    number_of kind (Some term) ≡ Some x → Fits64 kind term →
    slice_get index.numbers.items i ≡ Some x → (get_or index.lists i [] ≡ numbers_where (holds kind term) 0 vs) × (get_or index.lists i [] ≡ [] → ⊥)
number_found {kind} {vs} {index} term x i a is f found =
    let column = numbers_of kind vs in
    let g : ℕ → List ℕ = λ x. numbers_where (is_number x) 0 column in
    let within : i < length index.numbers.items = slice_get_within index.numbers.items i x found in
    let here : get_or index.numbers.items i 0 ≡ x = get_or_from_slice_get index.numbers.items i x 0 found in
    let list : get_or index.lists i [] ≡ g x = ap (λ ls. get_or ls i []) a.index_is.listed ∙ get_or-map g index.numbers.items i 0 [] within ∙ ap g here in
    let at : Contains column (Some x) = let P : ℕ → Type 0 = λ x. Contains column (Some x) in subst P here (a.index_is.occur i 0 within) in
    let passes : is_number x (get_or column at.0 (Some x)) ≡ true = ap (is_number x) at.2 ∙ (let same : (x == x) ≡ true = grind (arith, nat_tests) in same) in
    (list ∙ sym (holders_of kind term x vs is f a.fit), λ none. numbers_where-some (is_number x) 0 column at.0 (Some x) at.1 passes (sym list ∙ none))

-- a value has no term that is no number of its kind
pub no_number : (kind : Kind) (term : FieldValue) (v : Option FieldValue) → holds_numbers kind ≡ true → number_of kind (Some term) ≡ None →
    holds kind term v ≡ false
no_number kind term None h is = refl
no_number kinds.Text term (Some v) h is = absurd (let clash : false ≡ true = h in cc)
no_number kinds.Keyword term (Some v) h is = absurd (let clash : false ≡ true = h in cc)
no_number kinds.U64 (values.Number (numbers.U64 m)) (Some v) h is = absurd (let clash : Some m ≡ None = is in cc)
no_number kinds.I64 (values.Number (numbers.I64 m)) (Some v) h is = absurd (let clash : Some (u64_of m) ≡ None = is in cc)
no_number kinds.U64 (values.Number (numbers.I64 m)) (Some (values.Text t)) h is = refl
no_number kinds.U64 (values.Number (numbers.I64 m)) (Some (values.Texts ts)) h is = refl
no_number kinds.U64 (values.Number (numbers.I64 m)) (Some (values.Number (numbers.U64 n))) h is = refl
no_number kinds.U64 (values.Number (numbers.I64 m)) (Some (values.Number (numbers.I64 n))) h is = refl
no_number kinds.I64 (values.Number (numbers.U64 m)) (Some (values.Text t)) h is = refl
no_number kinds.I64 (values.Number (numbers.U64 m)) (Some (values.Texts ts)) h is = refl
no_number kinds.I64 (values.Number (numbers.U64 m)) (Some (values.Number (numbers.U64 n))) h is = refl
no_number kinds.I64 (values.Number (numbers.U64 m)) (Some (values.Number (numbers.I64 n))) h is = refl
no_number kinds.U64 (values.Text t) (Some (values.Text u)) h is = refl
no_number kinds.U64 (values.Text t) (Some (values.Texts us)) h is = refl
no_number kinds.U64 (values.Text t) (Some (values.Number (numbers.U64 n))) h is = refl
no_number kinds.U64 (values.Text t) (Some (values.Number (numbers.I64 n))) h is = refl
no_number kinds.I64 (values.Text t) (Some (values.Text u)) h is = refl
no_number kinds.I64 (values.Text t) (Some (values.Texts us)) h is = refl
no_number kinds.I64 (values.Text t) (Some (values.Number (numbers.U64 n))) h is = refl
no_number kinds.I64 (values.Text t) (Some (values.Number (numbers.I64 n))) h is = refl
no_number kinds.U64 (values.Texts ts) (Some v) h is = texts_in_value kinds.U64 ts (Some v)
no_number kinds.I64 (values.Texts ts) (Some v) h is = texts_in_value kinds.I64 ts (Some v)

pub none_without : {kind : Kind} {vs : List (Option FieldValue)} {index : NumberIndex} (term : FieldValue) → AreNumbers kind vs index →
    number_of kind (Some term) ≡ None → numbers_where (holds kind term) 0 vs ≡ []
none_without {kind} {vs} term a is = numbers_where-none (holds kind term) 0 vs (λ k d h. no_number kind term (get_or vs k d) a.kind_is is)

pub if_none : {X : Type 0} {P A : Type 0} (Q : X → Type 0) (o : Option X) → MatchOption o P Q → (P → A) → IfNone o A
if_none Q None m f = f m
if_none Q (Some x) m f = tt

pub if_some : {X : Type 0} (P : Type 0) (Q B : X → Type 0) (o : Option X) → MatchOption o P Q → ((x : X) → Q x → B x) → IfSome o B
if_some P Q B None m f = tt
if_some P Q B (Some x) m f = f x m

pub field_holds : (field : Field) (v : Option FieldValue) (term : FieldValue) → field_has (Some field) v term ≡ holds field.kind term v
field_holds field None term = refl
field_holds field (Some v) term = refl

-- the documents that have a term are those whose value in its field has it
pub postings-values : (segment : SegmentValue) (term : Term) (field : Field) → slice_get segment.schema term.field ≡ Some field →
    postings segment term ≡ numbers_where (holds field.kind term.value) 0 (values_in term.field segment.documents)
postings-values segment term field at =
    numbers_where-map (λ (d : Stamped DocumentValue). has segment.schema d.value term) (holds field.kind term.value) (λ d. value_in_field d.value term.field)
    (λ d. ap (λ f. field_has f (value_in_field d.value term.field) term.value) at ∙ field_holds field (value_in_field d.value term.field) term.value) 0
    segment.documents

-- no document has a term of a field that isn't there
pub no_field : (segment : SegmentValue) (term : Term) → slice_get segment.schema term.field ≡ None → postings segment term ≡ []
no_field segment term at =
    numbers_where-none (λ (d : Stamped DocumentValue). has segment.schema d.value term) 0 segment.documents
    (λ k d h. ap (λ f. field_has f (value_in_field (get_or segment.documents k d).value term.field) term.value) at)

-- the values of documents with one more
pub values-more : (field : ℕ) (ds : List (Stamped DocumentValue)) (i : ℕ) (d : Stamped DocumentValue) → i < length ds → d ≡ get_or ds i d →
    values_in field (take (i + 1) ds) ≡ values_in field (take i ds) ++ value_in_field d.value field ∷ []
values-more field ds i d within here =
    let value : Stamped DocumentValue → Option FieldValue = λ d. value_in_field d.value field in
    ap (values_in field) (take_more ds i d within) ∙ map_push value (take i ds) (get_or ds i d)
    ∙ ap (λ e. values_in field (take i ds) ++ value e ∷ []) (sym here)

pub length-values : (field : ℕ) (ds : List (Stamped DocumentValue)) (i : ℕ) → i ≤ length ds → length (values_in field (take i ds)) ≡ i
length-values field ds i within = length-map (take i ds) (λ d. value_in_field d.value field) ∙ length-take-le i ds within

pub copied : (P : FieldValue → Type 0) (o : Option (Bor FieldValue)) → IfSome o (λ v. P v.now) → IfSome (option_copied o) P
copied P None h = tt
copied P (Some v) h = h

-- a field of a schema has its kind
pub field_at : (o : Option Field) (kind : Kind) → option_map (λ f. f.kind) o ≡ Some kind → (field : Field) × (o ≡ Some field) × (field.kind ≡ kind)
field_at None kind h = absurd (let clash : None ≡ Some kind = h in cc)
field_at (Some field) kind h = (field, refl, (let same : Some field.kind ≡ Some kind = h in cc))

-- the index of a field, as it is read, is that of its values
pub index_at : {segment : SegmentValue} {fields : List IndexedField} (f : ℕ) (kind : Kind) (field : IndexedField) (read : List IndexedField) →
    AreFieldsOf segment fields → kind_at segment.schema f ≡ Some kind → read ≡ fields → true ≡ nat_lt f (length read) → field ≡ get_or read f field →
    IsFieldIndex kind (values_in f segment.documents) field.index
index_at f kind field read a here same within is =
    a.each f field (ap (λ xs. slice_get xs f) (sym same) ∙ slice_get-get_or read f field (ltb-true f (length read) (sym within)) ∙ ap Some (sym is)) kind here

pub postings-kind : (segment : SegmentValue) (term : Term) (kind : Kind) → option_map (λ f. f.kind) (slice_get segment.schema term.field) ≡ Some kind →
    numbers_where (holds kind term.value) 0 (values_in term.field segment.documents) ≡ postings segment term
postings-kind segment term kind here =
    let field = field_at (slice_get segment.schema term.field) kind here in
    ap (λ k. numbers_where (holds k term.value) 0 (values_in term.field segment.documents)) (sym field.2) ∙ sym (postings-values segment term field.0 field.1)

-- the index of a field, at a known number, is that of its values
pub stored_index : {segment : SegmentValue} {fields : List IndexedField} (f : ℕ) (kind : Kind) (field : IndexedField) → AreFieldsOf segment fields →
    kind_at segment.schema f ≡ Some kind → field ≡ get_or fields f field → IsFieldIndex kind (values_in f segment.documents) field.index
stored_index {segment} {fields} f kind field a here is =
    let at = field_at (slice_get segment.schema f) kind here in
    a.each f field (slice_get-get_or fields f field (omega (arith, slice_get_within segment.schema f at.0 at.1, a.count)) ∙ ap Some (sym is)) kind here

-- the numbers of the values of a field are those of the documents
pub numbers_of-values : (segment : SegmentValue) (f : ℕ) (kind : Kind) → option_map (λ f. f.kind) (slice_get segment.schema f) ≡ Some kind →
    numbers_of kind (values_in f segment.documents) ≡ column segment f
numbers_of-values segment f kind here =
    sym (map-map (number_of kind) (λ (d : Stamped DocumentValue). value_in_field d.value f) segment.documents)
    ∙ ap (λ k. map (λ (d : Stamped DocumentValue). option_and_then (λ kind. number_of kind (value_in_field d.value f)) k) segment.documents) (sym here)

-- the ordinals of the values of a field are those of the documents
pub ordinals_of-values : (segment : SegmentValue) (f : ℕ) (kind : Kind) → option_map (λ f. f.kind) (slice_get segment.schema f) ≡ Some kind →
    ordinals_of kind (values_in f segment.documents) ≡ ordinals segment f
ordinals_of-values segment f kind here = ap (λ k. option_map_or (λ kind. ordinals_of kind (values_in f segment.documents)) k []) (sym here)

-- the texts of the values of a field are those of the documents
pub texts_of-values : (segment : SegmentValue) (f : ℕ) (kind : Kind) → option_map (λ f. f.kind) (slice_get segment.schema f) ≡ Some kind →
    texts_of kind (values_in f segment.documents) ≡ keywords segment f
texts_of-values segment f kind here = ap (λ k. option_map_or (λ kind. texts_of kind (values_in f segment.documents)) k []) (sym here)

no_number_fits : (vs : List (Option FieldValue)) → All (λ v. IfSome v (Fits64 kinds.Text)) vs × All (λ v. IfSome v (Fits64 kinds.Keyword)) vs
no_number_fits vs = (λ k d less. text (get_or vs k d), λ k d less. keyword (get_or vs k d))
  where
    text : (v : Option FieldValue) → IfSome v (Fits64 kinds.Text)
    text None = tt
    text (Some v) = tt

    keyword : (v : Option FieldValue) → IfSome v (Fits64 kinds.Keyword)
    keyword None = tt
    keyword (Some v) = tt

-- the numbers of a field fit
pub numbers_fit : (kind : Kind) (vs : List (Option FieldValue)) (index : FieldIndex) → IsFieldIndex kind vs index → All (λ v. IfSome v (Fits64 kind)) vs
numbers_fit kind vs (Terms index) h = subst (λ k. All (λ v. IfSome v (Fits64 k)) vs) (sym h.0) (no_number_fits vs).0
numbers_fit kind vs (Keywords index) h = subst (λ k. All (λ v. IfSome v (Fits64 k)) vs) (sym h.kind_is) (no_number_fits vs).1
numbers_fit kind vs (Numbers index) h = h.fit
