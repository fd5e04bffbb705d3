-- What is kept of hits, and what is told of them.
use Rattle.std.proofs.Common.{◌≡◌, ℕ, ◌<◌, true, false, ◌&&◌, Bool, List, [], ◌++◌, drop, length, fold, Option, Some, None, sym, ap, subst, ◌∙◌, All, IfSome}
use Rattle.std.specs.Prelude.{slice_index_or}
use Rattle.std.specs.Option.{option_map_or}
use Rattle.std.specs.List.{filter_map}
use Rattle.std.proofs.lemmas.List.Elements.{All-nil, filter_map-append}
use Rattle.std.proofs.lemmas.Bool.{and_parts}
use Rattle.fts_model.specs.declared.schema.Kind.{Kind}
use Rattle.fts_model.specs.declared.schema.Field.{Field}
use Rattle.fts_model.specs.declared.query.Top.{Top}
use Rattle.fts_model.specs.declared.query.Request.{Request}
use Rattle.fts_model.specs.Schemas.{holds_numbers}
use Rattle.fts_model.specs.Operations.{kind_at}
use Rattle.fts_model.specs.Queries.{is_number_field, is_ordered_field, is_limit, request_fits}
use Rattle.fts_model.specs.Answers.{count_one, group_cmp, groups}
use Rattle.fts_segment.specs.Segments.{SegmentValue, column}
use Rattle.fts_parts.specs.declared.tally.Tally.{Tally}
use Rattle.fts_parts.specs.Keys.{TopKValue, first_keys}
use Rattle.fts_parts.specs.Tallies.{IsTally, counts_of, present_at}
use Rattle.fts_parts.specs.Ranks.{keep_keys, key_at, keys_at}
use Rattle.fts_parts.specs.Collected.{HasCounted, HasNumbers, HasRanked, HasRankedLast, HasValues, KeysWithin, column_of, hits_at, named_by, value_at}
use Rattle.fts_parts.proofs.KeptLemmas.{column_kept, present_within, values_kept}
use Rattle.fts_parts.proofs.NamesLemmas.{named-fold}
use Rattle.fts_parts.proofs.RanksLemmas.{IsNumberField, keep-first, first_keys-within}

-- more values were counted
pub counted-more : (segment : SegmentValue) (asked : Option ℕ) (field : ℕ) (numbers : List (Option ℕ)) (docs : List ℕ) (old new : Tally) → asked ≡ Some field →
    numbers ≡ column_of segment field →
    ((before : List ℕ) → IsTally before old → IsTally (before ++ present_at numbers docs) new) →
    (before : List ℕ) → HasCounted segment asked before old → HasCounted segment asked (before ++ docs) new
counted-more segment asked field numbers docs old new is same more before =
    let P : Option ℕ → Type 0 = λ o. HasCounted segment o before old → HasCounted segment o (before ++ docs) new in
    let Q : List (Option ℕ) → Type 0 = λ ns. (before : List ℕ) → IsTally before old → IsTally (before ++ present_at ns docs) new in
    let taken = subst Q same more in
    subst P (sym is)
    (λ counted.
    let R : List ℕ → Type 0 = λ xs. IsTally xs new in
    subst R (sym (filter_map-append (λ doc. slice_index_or (column_of segment field) doc None) before docs))
    (taken (present_at (column_of segment field) before) counted))

-- no more values were counted
pub counted-same : (segment : SegmentValue) (asked : Option ℕ) (field : ℕ) (old new : Tally) → asked ≡ Some field →
    ((numbers : List ℕ) → IsTally numbers old → IsTally numbers new) → (before : List ℕ) → HasCounted segment asked before old →
    HasCounted segment asked before new
counted-same segment asked field old new is same before =
    let P : Option ℕ → Type 0 = λ o. HasCounted segment o before old → HasCounted segment o before new in
    subst P (sym is) (same (present_at (column_of segment field) before))

-- more keys were offered
pub ranked-more : (segment : SegmentValue) (asked : Option Top) (top : Top) (numbers : List (Option ℕ)) (docs : List ℕ) (old new : TopKValue) →
    asked ≡ Some top → numbers ≡ column segment top.by →
    new ≡ record { k = old.k; keys = keep_keys old.k old.keys (keys_at top.order segment.documents numbers docs) } →
    (before : List ℕ) → HasRanked segment asked before old → HasRanked segment asked (before ++ docs) new
ranked-more segment asked top numbers docs old new is same more before =
    let P : Option Top → Type 0 = λ o. HasRanked segment o before old → HasRanked segment o (before ++ docs) new in
    let h = key_at top.order segment.documents (column segment top.by) in
    let later : TopKValue → TopKValue =
    λ l. record { k = l.k; keys = keep_keys l.k l.keys (keys_at top.order segment.documents (column segment top.by) docs) } in
    subst P (sym is)
    (λ ranked.
    more
    ∙ ap (λ ns. record { k = old.k; keys = keep_keys old.k old.keys (keys_at top.order segment.documents ns docs) }) same
    ∙ ap later ranked
    ∙ ap (λ keys. record { k = top.k; keys = keys })
    (keep-first top.k (filter_map h before) (filter_map h docs) ∙ ap (first_keys top.k) (sym (filter_map-append h before docs))))

-- the keys of the last hits were offered
pub ranked-last : (segment : SegmentValue) (asked : Option Top) (top : Top) (numbers : List (Option ℕ)) (docs : List ℕ) (old new : TopKValue) →
    asked ≡ Some top → numbers ≡ column segment top.by → (passed : ℕ) →
    new ≡ record { k = old.k; keys = keep_keys old.k old.keys (keys_at top.order segment.documents numbers (drop passed docs)) } →
    (before : List ℕ) → HasRanked segment asked before old → HasRankedLast segment asked before docs new
ranked-last segment asked top numbers docs old new is same passed last before ranked =
    record { passed = passed; ranked = ranked-more segment asked top numbers (drop passed docs) old new is same last before ranked }

-- a number field has a kind that holds numbers
kind_known : (schema : List Field) (field : ℕ) (kind : Kind) → kind_at schema field ≡ Some kind → is_number_field schema field ≡ true →
    holds_numbers kind ≡ true
kind_known schema field kind known is = ap (λ (o : Option Kind). option_map_or holds_numbers o false) (sym known) ∙ is

-- a number field of a segment whose documents have values of their fields
pub number_field : (segment : SegmentValue) (field : ℕ) (kind : Kind) → HasNumbers segment → kind_at segment.schema field ≡ Some kind →
    is_number_field segment.schema field ≡ true → IsNumberField segment field kind
number_field segment field kind values known is =
    let holds = kind_known segment.schema field kind known is in
    record { known = known; holds = holds; can = values field kind known holds }

-- the groups of hits are the counts of what their column keeps, with the values that it keeps
pub groups_at : (segment : SegmentValue) (field : ℕ) (docs : List ℕ) → HasValues segment → is_ordered_field segment.schema field ≡ true →
    named_by (value_at segment field) (counts_of (present_at (column_of segment field) docs)) ≡ groups field (hits_at segment docs)
groups_at segment field docs has ordered =
    let bound = (column_kept segment field has ordered).0 in
    let is = (column_kept segment field has ordered).1 in
    let column = column_of segment field in
    let value = value_at segment field in
    named-fold group_cmp value bound [] (present_at column docs) is.keeps (present_within segment.documents field bound column value docs is)
    (All-nil (λ (c : ℕ × ℕ). c.0 < bound))
    ∙ ap (fold (count_one group_cmp) []) (sym (values_kept segment.documents field bound column value docs is))

-- what holds of what may be there
may_be : {X : Type 0} (p : X → Bool) (o : Option X) → option_map_or p o true ≡ true → IfSome o (λ x. p x ≡ true)
may_be p None h = tt
may_be p (Some x) h = h

top_field : (schema : List Field) (o : Option Top) → IfSome o (λ top. (is_number_field schema top.by && is_limit top.k) ≡ true) →
    IfSome o (λ t. is_number_field schema t.by ≡ true)
top_field schema None h = tt
top_field schema (Some top) h = (and_parts (is_number_field schema top.by) (is_limit top.k) h).0

pub fits-top : (schema : List Field) (request : Request) → request_fits schema request ≡ true → IfSome request.top (λ t. is_number_field schema t.by ≡ true)
fits-top schema request fits =
    top_field schema request.top
    (may_be (λ (top : Top). is_number_field schema top.by && is_limit top.k) request.top
    (and_parts (option_map_or (is_ordered_field schema) request.groups true) (option_map_or (λ top. is_number_field schema top.by && is_limit top.k)
    request.top true) fits).1)

-- keys of hits are of documents
pub ranked-within : (segment : SegmentValue) (wanted : Option Top) (docs : List ℕ) (top_k : TopKValue) → All (λ doc. doc < length segment.documents) docs →
    HasRanked segment wanted docs top_k → KeysWithin segment wanted top_k
ranked-within segment None docs top_k within ranked = tt
ranked-within segment (Some top) docs top_k within ranked =
    let P : TopKValue → Type 0 = λ l. All (λ key. key.doc < length segment.documents) l.keys in
    subst P (sym ranked) (first_keys-within segment top.by top.k top.order docs within)
