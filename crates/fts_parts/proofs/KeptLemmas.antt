-- What the column of a field keeps stands for the values of its documents, and in their order.
use Rattle.std.proofs.Common.{Bor, unwrap_or, ◌≡◌, ℕ, zero, suc, ◌^◌, ◌<◌, ◌≤◌, true, false, cond, ⊎_elim, List, [], ◌∷◌, length, map, Option, Some, None, refl}
use Rattle.std.proofs.Common.{sym, ap, subst, ◌∙◌, arith, All, Contains, IfSome, get_or, option_map}
use Rattle.std.specs.Prelude.{slice_get, slice_index_or, option_and_then, option_copied}
use Rattle.std.specs.Cmp.Lexicographic.{slice_cmp, nat_list_cmp_total}
use Rattle.std.specs.List.{filter_map, cons_option}
use Rattle.std.specs.Option.{option_map_or}
use Rattle.std.specs.Ordering.{nat_cmp, ordering_reverse}
use Rattle.std.specs.declared.cmp.Ordering.TheVariants.{Less}
use Rattle.std.proofs.lemmas.Bool.{cases_lt, cases_order}
use Rattle.std.proofs.lemmas.Cmp.{tied_itself}
use Rattle.std.proofs.lemmas.List.{get_or_past, get_or-map, get_or_default, length-map}
use Rattle.std.proofs.lemmas.List.Elements.{All-cons, All-nil}
use Rattle.std.proofs.lemmas.Option.{get_or_from_slice_get, slice_get-get_or, slice_get_past}
use Rattle.fts_model.specs.declared.schema.Kind.{Kind}
use Rattle.fts_model.specs.declared.schema.Kind.TheVariants as kinds
use Rattle.fts_model.specs.declared.value.FieldValue.{FieldValue}
use Rattle.fts_model.specs.declared.value.FieldValue.TheVariants as values
use Rattle.fts_model.specs.declared.value.Number.TheVariants as numbers
use Rattle.fts_model.specs.declared.value.GroupValue.{GroupValue}
use Rattle.fts_model.specs.declared.value.GroupValue.TheVariants as group_values
use Rattle.fts_model.specs.declared.operation.Stamped.{Stamped}
use Rattle.fts_model.specs.Schemas.{holds_numbers, is_ordered}
use Rattle.fts_model.specs.Documents.{DocumentValue, CanHave, is_of_kind, value_in_field}
use Rattle.fts_model.specs.Operations.{kind_at}
use Rattle.fts_model.specs.Queries.{is_ordered_field}
use Rattle.fts_model.specs.Answers.{group_cmp, group_of, group_in, groups_in}
use Rattle.fts_scan.proofs.Counts.{nat_order, order_above}
use Rattle.fts_segment.specs.Keywords.{before, keyword_of, ordinals_of, texts_in, texts_of}
use Rattle.fts_segment.specs.Occurrences.{values_in}
use Rattle.fts_segment.specs.Segments.{SegmentValue, number_of}
use Rattle.fts_segment.proofs.KeywordIndexLemmas.{text_among}
use Rattle.fts_segment.proofs.KeywordsLemmas.{Climbs, before-at, in_order-climbs}
use Rattle.fts_segment.proofs.OccurrencesLemmas.{map-map}
use Rattle.fts_parts.specs.Collected.{HasValues, column_of, value_at, value_in}
use Rattle.fts_parts.specs.Tallies.{present_at}
use Rattle.fts_parts.proofs.NamesLemmas.{KeepsOrder}
use Rattle.fts_parts.proofs.NumbersLemmas.{signed_order}
use Rattle.fts_parts.proofs.TallyLemmas.{below, itself}
use Rattle.fts_parts.proofs.ValuesLemmas.{kept-cons, map-cons, number_fits, signed_back}

-- what a column of numbers keeps of a value stands for it
number_kept : (kind : Kind) (keywords : List (List ℕ)) (v : Option FieldValue) → holds_numbers kind ≡ true → CanHave kind v →
    option_and_then group_of v ≡ option_map (value_in kind keywords) (number_of kind v)
number_kept kinds.Text keywords v h can = cc
number_kept kinds.Keyword keywords v h can = cc
number_kept kinds.U64 keywords None h can = refl
number_kept kinds.U64 keywords (Some (values.Text text)) h can = cc
number_kept kinds.U64 keywords (Some (values.Texts texts)) h can = cc
number_kept kinds.U64 keywords (Some (values.Number (numbers.U64 n))) h can = refl
number_kept kinds.U64 keywords (Some (values.Number (numbers.I64 z))) h can = cc
number_kept kinds.I64 keywords None h can = refl
number_kept kinds.I64 keywords (Some (values.Text text)) h can = cc
number_kept kinds.I64 keywords (Some (values.Texts texts)) h can = cc
number_kept kinds.I64 keywords (Some (values.Number (numbers.U64 n))) h can = cc
number_kept kinds.I64 keywords (Some (values.Number (numbers.I64 z))) h can = ap (λ x. Some (group_values.I64 x)) (sym (signed_back z can))

-- numbers stand as the values that they are kept for
numbers_keep : (kind : Kind) (keywords : List (List ℕ)) → holds_numbers kind ≡ true → KeepsOrder group_cmp (value_in kind keywords) (2 ^ 64)
numbers_keep kinds.Text keywords h x y low high = cc
numbers_keep kinds.Keyword keywords h x y low high = cc
numbers_keep kinds.U64 keywords h x y low high = refl
numbers_keep kinds.I64 keywords h x y low high = signed_order x y

-- if texts climb, one with a lower index is before one with a higher index
climbs_at : (ts : List (List ℕ)) (i j : ℕ) → Climbs ts → i < j → j < length ts → slice_cmp nat_cmp (get_or ts i []) (get_or ts j []) ≡ Less
climbs_at [] i j climbs up less = absurd (omega (arith, less))
climbs_at (t ∷ ts) i zero climbs up less = absurd (omega (arith, up))
climbs_at (t ∷ ts) zero (suc j) climbs up less = climbs.0 j [] (omega (arith, less))
climbs_at (t ∷ ts) (suc i) (suc j) climbs up less = climbs_at ts i j climbs.1 (omega (arith, up)) (omega (arith, less))

-- ordinals stand as their keywords do
ordinals_keep : (ts : List (List ℕ)) → Climbs ts → KeepsOrder group_cmp (value_in kinds.Keyword ts) (length ts)
ordinals_keep ts climbs x y h l =
    ⊎_elim (λ (same : x ≡ y). ap (λ n. slice_cmp nat_cmp (get_or ts n []) (get_or ts y [])) same ∙ tied_itself nat_list_cmp_total (get_or ts y [])
    ∙ sym (ap (λ n. nat_cmp n y) same ∙ itself y))
    (⊎_elim (λ (up : x < y). climbs_at ts x y climbs up l ∙ sym (below x y up))
    (λ (down : y < x). nat_list_cmp_total.antisymm (get_or ts x []) (get_or ts y []) ∙ ap ordering_reverse (climbs_at ts y x climbs down h)
    ∙ sym (order_above nat_order y x (below y x down))))
    (cases_order x y)

-- a text that is among others stands at the number of those before it
text_at : (ts : List (List ℕ)) (t : List ℕ) → Climbs ts → Contains ts t → (before ts t < length ts) × (get_or ts (before ts t) [] ≡ t)
text_at ts t climbs at =
    let i = at.0 in
    let is : get_or ts i [] ≡ t = get_or_default ts i [] t at.1 ∙ at.2 in
    let place : before ts t ≡ i = ap (before ts) (sym is) ∙ before-at ts i climbs at.1 in
    (omega (arith, place, at.1), ap (λ n. get_or ts n []) place ∙ is)

-- the texts of a keyword field climb
texts_climb : (vs : List (Option FieldValue)) → Climbs (texts_of kinds.Keyword vs)
texts_climb vs = in_order-climbs (texts_in (map (keyword_of kinds.Keyword) vs))

-- the ordinal of a text stands for it
ordinal_kept : (vs : List (Option FieldValue)) (v : Option FieldValue) → Contains vs v → IfSome v (λ v. is_of_kind kinds.Keyword v ≡ true) →
    option_and_then group_of v ≡ option_map (value_in kinds.Keyword (texts_of kinds.Keyword vs))
    (option_map (before (texts_of kinds.Keyword vs)) (keyword_of kinds.Keyword v))
ordinal_kept vs None at is = refl
ordinal_kept vs (Some (values.Text t)) at is =
    ap (λ x. Some (group_values.Keyword x)) (sym (text_at (texts_of kinds.Keyword vs) t (texts_climb vs) (text_among vs t at)).1)
ordinal_kept vs (Some (values.Texts ts)) at is = cc
ordinal_kept vs (Some (values.Number n)) at is = cc

-- and is one of so many
ordinal_within : (vs : List (Option FieldValue)) (v : Option FieldValue) → Contains vs v →
    IfSome (option_map (before (texts_of kinds.Keyword vs)) (keyword_of kinds.Keyword v)) (λ x. x < length (texts_of kinds.Keyword vs))
ordinal_within vs None at = tt
ordinal_within vs (Some (values.Text t)) at = (text_at (texts_of kinds.Keyword vs) t (texts_climb vs) (text_among vs t at)).0
ordinal_within vs (Some (values.Texts ts)) at = tt
ordinal_within vs (Some (values.Number n)) at = tt

-- a column keeps numbers below a bound for the values of documents, in their order
pub record IsKept (documents : List (Stamped DocumentValue)) (field bound : ℕ) (column : List (Option ℕ)) (value : ℕ → GroupValue) : Type 0 where
  pub kept : (doc : ℕ) → option_and_then (λ d. group_in d.value field) (slice_get documents doc) ≡ option_map value (slice_index_or column doc None)
  pub within : (doc : ℕ) → IfSome (slice_index_or column doc None) (λ x. x < bound)
  pub keeps : KeepsOrder group_cmp value bound

-- a column of what is kept of each value is one
is_kept : (documents : List (Stamped DocumentValue)) (field bound : ℕ) (keep : Option FieldValue → Option ℕ) (value : ℕ → GroupValue) →
    All (λ d. option_and_then group_of (value_in_field d.value field) ≡ option_map value (keep (value_in_field d.value field))) documents →
    All (λ d. IfSome (keep (value_in_field d.value field)) (λ x. x < bound)) documents → KeepsOrder group_cmp value bound →
    IsKept documents field bound (map (λ d. keep (value_in_field d.value field)) documents) value
is_kept documents field bound keep value kept within keeps =
    let d : Stamped DocumentValue = record { stamp = 0; value = record { schema = []; values = [] } } in
    let f : Stamped DocumentValue → Option ℕ = λ d. keep (value_in_field d.value field) in
    let g : Stamped DocumentValue → Option GroupValue = λ d. group_in d.value field in
    let P : Option ℕ → Type 0 = λ o. IfSome o (λ x. x < bound) in
    record {
      kept = λ doc.
          ⊎_elim
          (λ (inside : doc < length documents).
          ap (option_and_then g) (slice_get-get_or documents doc d inside) ∙ kept doc d inside
          ∙ ap (option_map value) (sym (get_or-map f documents doc d None inside)))
          (λ (past : length documents ≤ doc).
          ap (option_and_then g) (slice_get_past documents doc past)
          ∙ ap (option_map value) (sym (get_or_past (map f documents) doc None (omega (arith, length-map documents f, past)))))
          (cases_lt doc (length documents));
      within = λ doc.
          ⊎_elim (λ (inside : doc < length documents). subst P (sym (get_or-map f documents doc d None inside)) (within doc d inside))
          (λ (past : length documents ≤ doc). subst P (sym (get_or_past (map f documents) doc None (omega (arith, length-map documents f, past)))) tt)
          (cases_lt doc (length documents));
      keeps = keeps;
    }

-- the column of a number field is one
numbers_are_kept : (documents : List (Stamped DocumentValue)) (field : ℕ) (kind : Kind) (keywords : List (List ℕ)) → holds_numbers kind ≡ true →
    All (λ d. CanHave kind (value_in_field d.value field)) documents →
    IsKept documents field (2 ^ 64) (map (λ d. number_of kind (value_in_field d.value field)) documents) (value_in kind keywords)
numbers_are_kept documents field kind keywords holds can =
    is_kept documents field (2 ^ 64) (number_of kind) (value_in kind keywords)
    (λ k d within. number_kept kind keywords (value_in_field (get_or documents k d).value field) holds (can k d within))
    (λ k d within. number_fits kind (value_in_field (get_or documents k d).value field) (can k d within))
    (numbers_keep kind keywords holds)

-- a document's value is among the values
value_among : (field : ℕ) (documents : List (Stamped DocumentValue)) (k : ℕ) (d : Stamped DocumentValue) → k < length documents →
    Contains (values_in field documents) (value_in_field (get_or documents k d).value field)
value_among field documents k d within =
    let value : Stamped DocumentValue → Option FieldValue = λ d. value_in_field d.value field in
    (k, omega (arith, length-map documents value, within), get_or-map value documents k d (value (get_or documents k d)) within)

-- so are the ordinals of a keyword field
ordinals_are_kept : (documents : List (Stamped DocumentValue)) (field : ℕ) →
    All (λ d. IfSome (value_in_field d.value field) (λ v. is_of_kind kinds.Keyword v ≡ true)) documents →
    IsKept documents field (length (texts_of kinds.Keyword (values_in field documents))) (ordinals_of kinds.Keyword (values_in field documents))
    (value_in kinds.Keyword (texts_of kinds.Keyword (values_in field documents)))
ordinals_are_kept documents field are =
    let vs = values_in field documents in
    let ts = texts_of kinds.Keyword vs in
    let keep : Option FieldValue → Option ℕ = λ v. option_map (before ts) (keyword_of kinds.Keyword v) in
    let P : List (Option ℕ) → Type 0 = λ column. IsKept documents field (length ts) column (value_in kinds.Keyword ts) in
    subst P (map-map keep (λ (d : Stamped DocumentValue). value_in_field d.value field) documents)
    (is_kept documents field (length ts) keep (value_in kinds.Keyword ts)
    (λ k d within. ordinal_kept vs (value_in_field (get_or documents k d).value field) (value_among field documents k d within) (are k d within))
    (λ k d within. ordinal_within vs (value_in_field (get_or documents k d).value field) (value_among field documents k d within))
    (ordinals_keep ts (texts_climb vs)))

-- the column and the value of a number in a field of this kind, if there is one
abbrev column_with : SegmentValue → ℕ → Option Kind → List (Option ℕ)
column_with segment field kind =
    cond (option_map_or holds_numbers kind false) (map (λ d. option_and_then (λ kind. number_of kind (value_in_field d.value field)) kind) segment.documents)
    (option_map_or (λ kind. ordinals_of kind (values_in field segment.documents)) kind [])

abbrev value_with : SegmentValue → ℕ → Option Kind → ℕ → GroupValue
value_with segment field kind x =
    option_map_or (λ k. value_in k (option_map_or (λ kind. texts_of kind (values_in field segment.documents)) kind []) x) kind (group_values.U64 x)

-- the column of a field whose values have an order keeps them
kept_with : (segment : SegmentValue) (field : ℕ) (kind : Kind) → HasValues segment → kind_at segment.schema field ≡ Some kind → is_ordered kind ≡ true →
    (bound : ℕ) × IsKept segment.documents field bound (column_with segment field (Some kind)) (value_with segment field (Some kind))
kept_with segment field kinds.Text has known ordered = cc
kept_with segment field kinds.Keyword has known ordered =
    (length (texts_of kinds.Keyword (values_in field segment.documents)), ordinals_are_kept segment.documents field (has.keywords field known))
kept_with segment field kinds.U64 has known ordered = (
  2 ^ 64,
  numbers_are_kept segment.documents field kinds.U64 (texts_of kinds.U64 (values_in field segment.documents)) refl
      (has.numbers field kinds.U64 known refl),
)
kept_with segment field kinds.I64 has known ordered = (
  2 ^ 64,
  numbers_are_kept segment.documents field kinds.I64 (texts_of kinds.I64 (values_in field segment.documents)) refl
      (has.numbers field kinds.I64 known refl),
)

pub column_kept : (segment : SegmentValue) (field : ℕ) → HasValues segment → is_ordered_field segment.schema field ≡ true →
    (bound : ℕ) × IsKept segment.documents field bound (column_of segment field) (value_at segment field)
column_kept segment field has ordered = by (kind_at segment.schema field) refl ordered
  where
    by : (o : Option Kind) → kind_at segment.schema field ≡ o → option_map_or is_ordered o false ≡ true →
        (bound : ℕ) × IsKept segment.documents field bound (column_of segment field) (value_at segment field)
    by None known ordered = cc
    by (Some kind) known ordered =
        let P : Option Kind → Type 0 = λ o. (bound : ℕ) × IsKept segment.documents field bound (column_with segment field o) (value_with segment field o) in
        subst P (sym known) (kept_with segment field kind has known ordered)

-- the values of hits are those that their column keeps
pub values_kept : (documents : List (Stamped DocumentValue)) (field bound : ℕ) (column : List (Option ℕ)) (value : ℕ → GroupValue) (docs : List ℕ) →
    IsKept documents field bound column value →
    groups_in field (filter_map (slice_get documents) docs) ≡ map value (present_at column docs)
values_kept documents field bound column value [] is = refl
values_kept documents field bound column value (doc ∷ docs) is =
    let g : Stamped DocumentValue → Option GroupValue = λ d. group_in d.value field in
    let rest = filter_map (slice_get documents) docs in
    kept-cons g (slice_get documents doc) rest
    ∙ ap (λ o. cons_option o (filter_map g rest)) (is.kept doc)
    ∙ ap (cons_option (option_map value (slice_index_or column doc None))) (values_kept documents field bound column value docs is)
    ∙ sym (map-cons value (slice_index_or column doc None) (present_at column docs))

-- and what it keeps is below the bound
within_with : (bound : ℕ) (o : Option ℕ) (rest : List ℕ) → IfSome o (λ x. x < bound) → All (λ x. x < bound) rest → All (λ x. x < bound) (cons_option o rest)
within_with bound None rest h all = all
within_with bound (Some x) rest h all = All-cons (λ x. x < bound) x rest h all

pub present_within : (documents : List (Stamped DocumentValue)) (field bound : ℕ) (column : List (Option ℕ)) (value : ℕ → GroupValue) (docs : List ℕ) →
    IsKept documents field bound column value →
    All (λ x. x < bound) (present_at column docs)
present_within documents field bound column value [] is = All-nil (λ x. x < bound)
present_within documents field bound column value (doc ∷ docs) is =
    within_with bound (slice_index_or column doc None) (present_at column docs) (is.within doc) (present_within documents field bound column value docs is)

-- what is read of an ordinal, or nothing
pub keyword_read : (keywords : List (List ℕ)) (ordinal : ℕ) (found : Option (Bor (List ℕ))) (nothing : Bor (List ℕ)) →
    option_copied found ≡ slice_get keywords ordinal → nothing.now ≡ [] →
    (unwrap_or found nothing).now ≡ slice_index_or keywords ordinal []
keyword_read keywords ordinal None nothing is empty =
    ⊎_elim
    (λ (inside : ordinal < length keywords). let clash : None ≡ Some (get_or keywords ordinal []) = is ∙ slice_get-get_or keywords ordinal [] inside in
    absurd (let no : None ≡ Some (get_or keywords ordinal []) = clash in cc))
    (λ (past : length keywords ≤ ordinal). empty ∙ sym (get_or_past keywords ordinal [] past)) (cases_lt ordinal (length keywords))
keyword_read keywords ordinal (Some keyword) nothing is empty = sym (get_or_from_slice_get keywords ordinal keyword.now [] (sym is))
