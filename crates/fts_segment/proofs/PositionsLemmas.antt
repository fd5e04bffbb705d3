-- The positions of a term in the documents that have it.
use Rattle.std.proofs.Common.{◌≡◌, ◌+◌, ◌<◌, ◌≤◌, ℕ, suc, zero, Bool, true, false, cond, ◌||◌, List, [], ◌∷◌, ◌++◌, Option, Some, map, filter, length, get_or}
use Rattle.std.proofs.Common.{refl, sym, ap, subst, ◌∙◌, arith, All, nat_lt}
use Rattle.std.specs.Prelude.{slice_get, option_map}
use Rattle.std.specs.Option.{option_map_or}
use Rattle.std.specs.List.{list_any}
use Rattle.std.proofs.lemmas.Bool.{lt-ltb}
use Rattle.std.proofs.lemmas.List.{map-append}
use Rattle.std.proofs.lemmas.List.Elements.{filter-append, All-map, All-filter, All-weaker}
use Rattle.fts_model.specs.declared.schema.Field.{Field}
use Rattle.fts_model.specs.declared.schema.Kind.{Kind}
use Rattle.fts_model.specs.declared.value.FieldValue.{FieldValue}
use Rattle.fts_model.specs.declared.value.FieldValue.TheVariants as values
use Rattle.fts_model.specs.declared.operation.Stamped.{Stamped}
use Rattle.fts_model.specs.declared.operation.Term.{Term}
use Rattle.fts_model.specs.Documents.{DocumentValue, value_in_field}
use Rattle.fts_model.specs.Operations.{has, field_has}
use Rattle.fts_segment.specs.declared.term_groups.DocPosition.{DocPosition}
use Rattle.fts_segment.specs.Occurrences.{OccurrenceValue, occurrence_at, occurrences_at, occurrences, is_token, is_term, tokens_of, holds, values_in}
use Rattle.fts_segment.specs.Occurrences.{HasFewTokens}
use Rattle.fts_segment.specs.Segments.{SegmentValue, numbers_where, positions_among, document_tokens, positions, positions_of}
use Rattle.fts_segment.specs.Positions.{place_of, places_with, position_lists_of, position_lists_with, value_position_lists}
use Rattle.fts_positions.specs.PositionLists.{IsPositionList}
use Rattle.fts_segment.proofs.HoldingLemmas.{from_first, numbers_where-cons}
use Rattle.fts_segment.proofs.PositionListsLemmas.{place_at, position_list_first}
use Rattle.fts_segment.proofs.TokenLemmas.{IsPositionList-tokens}
use Rattle.fts_segment.proofs.FieldLemmas.{holds-tokens, field_at, field_holds}

-- the places of a term in a document are the positions of its tokens
token_places : (q : List ℕ) (doc : ℕ) (ts : List (ℕ × List ℕ)) → places_with q (map (occurrence_at doc) ts) ≡ map (place_at doc) (positions_among q ts)
token_places q doc [] = refl
token_places q doc (t ∷ ts) =
    let Here : Bool → Type 0 =
    λ b. map place_of (cond b (occurrence_at doc t ∷ filter (is_term q) (map (occurrence_at doc) ts)) (filter (is_term q) (map (occurrence_at doc) ts)))
    ≡ map (place_at doc) (map (λ (t : ℕ × List ℕ). t.0) (cond b (t ∷ filter (is_token q) ts) (filter (is_token q) ts))) in
    elim (is_token q t) as Here [ true ↦ ap (λ (ps : List DocPosition). place_at doc t.0 ∷ ps) (token_places q doc ts) | false ↦ token_places q doc ts ]

places_with-append : (q : List ℕ) (os ps : List OccurrenceValue) → places_with q (os ++ ps) ≡ places_with q os ++ places_with q ps
places_with-append q os ps = ap (map place_of) (filter-append (is_term q) os ps) ∙ map-append place_of (filter (is_term q) os) (filter (is_term q) ps)

later_places : (q : List ℕ) (kind : Kind) (doc : ℕ) (vs : List (Option FieldValue)) → All (λ p. doc < p.doc) (places_with q (occurrences kind (doc + 1) vs))
later_places q kind doc vs =
    All-map (λ (p : DocPosition). doc < p.doc) place_of (filter (is_term q) (occurrences kind (doc + 1) vs))
    (All-filter (is_term q) (λ (o : OccurrenceValue). doc < o.doc) (occurrences kind (doc + 1) vs)
    (All-weaker (λ (o : OccurrenceValue). doc + 1 ≤ o.doc) (λ (o : OccurrenceValue). doc < o.doc) (λ o above. omega arith) _ (from_first kind (doc + 1) vs)))

some_token : (q : List ℕ) (ts : List (ℕ × List ℕ)) → nat_lt 0 (length (positions_among q ts)) ≡ list_any (is_token q) ts
some_token q [] = refl
some_token q (t ∷ ts) =
    elim (is_token q t) as (λ b. nat_lt 0 (length (map (λ (t : ℕ × List ℕ). t.0) (cond b (t ∷ filter (is_token q) ts) (filter (is_token q) ts))))
    ≡ (b || list_any (is_token q) ts)) [
      | true ↦ lt-ltb 0 (suc (length (positions_among q ts))) (omega arith)
      | false ↦ some_token q ts
    ]

map_filter-cons : {X Y : Type 0} (f : X → Y) (p : X → Bool) (x : X) (xs : List X) →
    map f (filter p (x ∷ xs)) ≡ cond (p x) (f x ∷ map f (filter p xs)) (map f (filter p xs))
map_filter-cons f p x xs = elim (p x) as (λ b. map f (cond b (x ∷ filter p xs) (filter p xs)) ≡ cond b (f x ∷ map f (filter p xs)) (map f (filter p xs)))
    [ true ↦ refl | false ↦ refl ]

-- the position lists of a value, followed by those of later ones
pub position_lists-cons : (q : List ℕ) (kind : Kind) (doc : ℕ) (v : Option FieldValue) (vs : List (Option FieldValue)) → let rest =
    position_lists_with q (occurrences kind (doc + 1) vs) in
    position_lists_with q (occurrences kind doc (v ∷ vs)) ≡ cond (list_any (is_token q) (tokens_of kind v)) (positions_among q (tokens_of kind v) ∷ rest) rest
position_lists-cons q kind doc v vs =
    let ns = positions_among q (tokens_of kind v) in
    let rest = places_with q (occurrences kind (doc + 1) vs) in
    ap position_lists_of (places_with-append q (occurrences_at kind doc v) (occurrences kind (doc + 1) vs) ∙ ap (λ ps. ps ++ rest)
    (token_places q doc (tokens_of kind v)))
    ∙ position_list_first doc ns rest (later_places q kind doc vs)
    ∙ ap (λ b. cond b (ns ∷ position_lists_of rest) (position_lists_of rest)) (some_token q (tokens_of kind v))

-- the position lists of a term's occurrences are its positions in the values that have it
pub position_lists_with-occurrences : (q : List ℕ) (kind : Kind) (doc : ℕ) (vs : List (Option FieldValue)) →
    position_lists_with q (occurrences kind doc vs) ≡ value_position_lists kind (values.Text q) vs
position_lists_with-occurrences q kind doc [] = refl
position_lists_with-occurrences q kind doc (v ∷ vs) =
    let f : Option FieldValue → List ℕ = λ v. positions_among q (tokens_of kind v) in
    position_lists-cons q kind doc v vs
    ∙ ap (λ b. cond b (f v ∷ position_lists_with q (occurrences kind (doc + 1) vs)) (position_lists_with q (occurrences kind (doc + 1) vs)))
    (holds-tokens kind q v)
    ∙ ap (λ rs. cond (holds kind (values.Text q) v) (f v ∷ rs) rs) (position_lists_with-occurrences q kind (doc + 1) vs)
    ∙ sym (map_filter-cons f (holds kind (values.Text q)) v vs)

-- the position lists of occurrences are position lists
pub ArePositionLists-occurrences : (q : List ℕ) (kind : Kind) (vs : List (Option FieldValue)) → All (HasFewTokens kind) vs →
    All IsPositionList (position_lists_with q (occurrences kind 0 vs))
ArePositionLists-occurrences q kind vs few =
    let P : List (List ℕ) → Type 0 = All IsPositionList in
    let p : Option FieldValue → Bool = holds kind (values.Text q) in
    let f : Option FieldValue → List ℕ = λ v. positions_among q (tokens_of kind v) in
    subst P (sym (position_lists_with-occurrences q kind 0 vs))
    (All-map IsPositionList f (filter p vs)
    (All-filter p (λ v. IsPositionList (f v)) vs (All-weaker (HasFewTokens kind) (λ v. IsPositionList (f v)) (λ v few. IsPositionList-tokens q kind v few)
    vs few)))

map_filter-map : {X Y Z : Type 0} (f : X → Z) (h : Y → Z) (p : X → Bool) (q : Y → Bool) (g : X → Y) → ((x : X) → h (g x) ≡ f x) → ((x : X) → q (g x) ≡ p x) →
    (xs : List X) →
    map h (filter q (map g xs)) ≡ map f (filter p xs)
map_filter-map f h p q g same test [] = refl
map_filter-map f h p q g same test (x ∷ xs) =
    map_filter-cons h q (g x) (map g xs)
    ∙ ap (λ b. cond b (h (g x) ∷ map h (filter q (map g xs))) (map h (filter q (map g xs)))) (test x)
    ∙ ap (λ y. cond (p x) (y ∷ map h (filter q (map g xs))) (map h (filter q (map g xs)))) (same x)
    ∙ ap (λ ys. cond (p x) (f x ∷ ys) ys) (map_filter-map f h p q g same test xs) ∙ sym (map_filter-cons f p x xs)

value_positions : (segment : SegmentValue) (term : Term) (value : FieldValue) (field : Field) → slice_get segment.schema term.field ≡ Some field →
    term.value ≡ value →
    value_position_lists field.kind value (values_in term.field segment.documents) ≡ positions_of segment term value
value_positions segment term (values.Number n) field here is = refl
value_positions segment term (values.Texts ts) field here is = refl
value_positions segment term (values.Text text) field here is =
    map_filter-map (λ (d : Stamped DocumentValue). positions_among text (document_tokens segment.schema term.field d.value))
    (λ v. positions_among text (tokens_of field.kind v))
    (λ (d : Stamped DocumentValue). has segment.schema d.value term) (holds field.kind (values.Text text)) (λ d. value_in_field d.value term.field)
    (λ d. sym (ap (λ f. positions_among text (option_map_or (λ kind. tokens_of kind (value_in_field d.value term.field)) (option_map (λ f. f.kind) f) []))
    here))
    (λ d. sym (ap (λ f. field_has f (value_in_field d.value term.field) term.value) here ∙ field_holds field (value_in_field d.value term.field) term.value
    ∙ ap (λ t. holds field.kind t (value_in_field d.value term.field)) is))
    segment.documents

pub positions-kind : (segment : SegmentValue) (term : Term) (kind : Kind) → option_map (λ f. f.kind) (slice_get segment.schema term.field) ≡ Some kind →
    value_position_lists kind term.value (values_in term.field segment.documents) ≡ positions segment term
positions-kind segment term kind here =
    let field = field_at (slice_get segment.schema term.field) kind here in
    ap (λ k. value_position_lists k term.value (values_in term.field segment.documents)) (sym field.2) ∙ value_positions segment term term.value field.0 field.1
    refl

-- an element at an index among those that pass a test
pub kth : {X Y : Type 0} (p : X → Bool) (f : X → Y) (n : ℕ) (xs : List X) (k : ℕ) → k < length (numbers_where p n xs) →
    (x : X) × (i : ℕ) × (get_or (numbers_where p n xs) k 0 ≡ n + i) × (slice_get xs i ≡ Some x) × (slice_get (map f (filter p xs)) k ≡ Some (f x))
kth p f n [] k within = absurd (omega arith)
kth {X} {Y} p f n (x ∷ xs) k within =
    let ns = numbers_where p (n + 1) xs in
    let ys = map f (filter p xs) in
    let Goal : List ℕ → List Y → ℕ → Type 0 = λ ms zs k. k < length ms → (y : X) × (i : ℕ) × (get_or ms k 0 ≡ n + i) × (slice_get (x ∷ xs) i ≡ Some y)
    × (slice_get zs k ≡ Some (f y)) in
    let later : (j : ℕ) → j < length ns → (y : X) × (i : ℕ) × (get_or ns j 0 ≡ n + i) × (slice_get (x ∷ xs) i ≡ Some y) × (slice_get ys j ≡ Some (f y)) =
    λ j below. let r = kth p f (n + 1) xs j below in (r.0, suc r.1, omega (arith, r.2), r.3, r.4) in
    let Both : Bool → Type 0 = λ b. Goal (cond b (n ∷ ns) ns) (cond b (f x ∷ ys) ys) k in
    let both : Both (p x) = elim (p x) as Both [
      | true ↦ (elim k as (λ k. Goal (n ∷ ns) (f x ∷ ys) k) [
        | zero ↦ λ below. (x, 0, (let at : n ≡ n + 0 = omega arith in at), refl, refl)
        | suc j ↦ λ below. later j (omega arith)
      ])
      | false ↦ later k
    ] in
    let P : List ℕ → Type 0 = λ ms. Goal ms (map f (filter p (x ∷ xs))) k in
    let Q : List Y → Type 0 = λ zs. Goal (cond (p x) (n ∷ ns) ns) zs k in
    subst P (sym (numbers_where-cons p n x xs)) (subst Q (sym (map_filter-cons f p x xs)) both) within
