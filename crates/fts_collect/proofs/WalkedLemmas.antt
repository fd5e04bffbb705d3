-- What the hits with the best numbers make of the first keys.
use Rattle.std.proofs.Common.{◌≡◌, ℕ, zero, suc, take, ◌&&◌, ◌-◌, ◌^◌, ◌<◌, ◌≤◌, ◌⊎◌, inl, inr, true, false, List, [], ◌++◌, length, Option, Some, None, refl}
use Rattle.std.proofs.Common.{sym, ap, subst, ◌∙◌, arith, IfSome}
use Rattle.std.specs.Prelude.{nat_le, option_map, slice_index_or}
use Rattle.std.specs.Option.{option_map_or}
use Rattle.std.specs.List.{filter_map}
use Rattle.std.proofs.lemmas.Bool.{and_parts}
use Rattle.std.proofs.lemmas.List.Elements.{filter_map-append}
use Rattle.fts_model.specs.declared.operation.Stamped.{Stamped}
use Rattle.fts_model.specs.declared.query.Order.{Order}
use Rattle.fts_model.specs.declared.query.Order.TheVariants.{Rising, Falling}
use Rattle.fts_model.specs.declared.query.Top.{Top}
use Rattle.fts_model.specs.declared.query.Request.{Request}
use Rattle.fts_model.specs.declared.schema.Field.{Field}
use Rattle.fts_model.specs.Documents.{DocumentValue}
use Rattle.fts_model.specs.Queries.{is_limit, is_number_field, is_ordered_field, request_fits}
use Rattle.fts_pack.specs.column.Column.{IsRangeOf, is_within}
use Rattle.fts_segment.specs.Segments.{SegmentValue, column}
use Rattle.fts_parts.specs.declared.top_k.Key.{Key}
use Rattle.fts_parts.specs.declared.seen.Seen.{Seen}
use Rattle.fts_parts.specs.Collected.{HasRanked, HasSeen}
use Rattle.fts_parts.specs.Keys.{TopKValue, first_keys}
use Rattle.fts_parts.specs.Ranks.{keep_keys, key_at, keys_at, rank_in, stamp_at}
use Rattle.fts_collect.specs.Internals.Walks.{IsEnd, RanksMore, has_between, hits_between}
use Rattle.fts_parts.proofs.BestLemmas.{first-best, within}
use Rattle.fts_parts.proofs.CollectLemmas.{ranked-more}
use Rattle.fts_parts.proofs.RanksLemmas.{in_range, least_in, most_in}
use Rattle.fts_collect.proofs.WalkLemmas.{keys-all, keys-count, keys-kept, none-outside, ranks-falling, ranks-rising}

-- the rank of the worse end
abbrev end_rank : Order → ℕ → ℕ → ℕ
end_rank Rising low high = high
end_rank Falling low high = 2 ^ 64 - 1 - low

by_rank : (order : Order) (documents : List (Stamped DocumentValue)) (doc most : ℕ) (v : Option ℕ) →
    option_map_or (within most) (option_map (λ x. record { rank = rank_in order x; stamp = stamp_at documents doc; doc = doc }) v) false
    ≡ option_map_or (λ x. nat_le (rank_in order x) most) v false
by_rank order documents doc most None = refl
by_rank order documents doc most (Some x) = refl

-- a number ranks within the worse end where it lies between the two
ranks-are : (order : Order) (range : ℕ × ℕ) (low high : ℕ) (v : Option ℕ) → IsEnd order range low high → range.1 < 2 ^ 64 → low < 2 ^ 64 →
    IfSome v (λ x. (range.0 ≤ x) × (x ≤ range.1)) →
    option_map_or (λ x. nat_le (rank_in order x) (end_rank order low high)) v false ≡ is_within low high v
ranks-are Rising range low high v is fits small inside =
    let P : ℕ → Type 0 = λ n. IfSome v (λ x. n ≤ x) in
    ranks-rising low high v (subst P (sym is) (least_in range.0 range.1 v inside))
ranks-are Falling range low high v is fits small inside =
    let P : ℕ → Type 0 = λ n. IfSome v (λ x. x ≤ n) in
    ranks-falling low high v small (omega (arith, is, fits)) (subst P (sym is) (most_in range.0 range.1 v inside))

none-key : (order : Order) (documents : List (Stamped DocumentValue)) (doc : ℕ) (v : Option ℕ) → v ≡ None →
    option_map (λ x. let key : Key = record { rank = rank_in order x; stamp = stamp_at documents doc; doc = doc } in key) v ≡ None
none-key order documents doc v is = ap (option_map (λ x. let key : Key = record { rank = rank_in order x; stamp = stamp_at documents doc; doc = doc } in key))
    is

wider : (low high : ℕ) (range : ℕ × ℕ) (v : Option ℕ) → low ≤ range.0 → range.1 ≤ high → IfSome v (λ x. (range.0 ≤ x) × (x ≤ range.1)) →
    IfSome v (λ x. (low ≤ x) × (x ≤ high))
wider low high range None a b h = tt
wider low high range (Some x) a b h = (omega (arith, a, h.0), omega (arith, b, h.1))

-- the first keys with those of the hits between two are the first with all, if there are enough, or no others
first-between : (segment : SegmentValue) (top : Top) (hits : List ℕ) (range : ℕ × ℕ) (low high : ℕ) (before : List Key) →
    IsRangeOf (column segment top.by) (Some range) → range.1 < 2 ^ 64 → low < 2 ^ 64 → IsEnd top.order range low high →
    (top.k ≤ length (hits_between segment top.by hits low high)) ⊎ ((low ≤ range.0) × (range.1 ≤ high)) →
    first_keys top.k (before ++ keys_at top.order segment.documents (column segment top.by) (hits_between segment top.by hits low high))
    ≡ first_keys top.k (before ++ keys_at top.order segment.documents (column segment top.by) hits)
first-between segment top hits range low high before ranged fits small is enough =
    let numbers = column segment top.by in
    let documents = segment.documents in
    let f : ℕ → Option Key = key_at top.order documents numbers in
    let q = has_between numbers low high in
    let most = end_rank top.order low high in
    let same : (d : ℕ) → option_map_or (within most) (f d) false ≡ q d = λ d.
    by_rank top.order documents d most (slice_index_or numbers d None)
    ∙ ranks-are top.order range low high (slice_index_or numbers d None) is fits small (in_range numbers range d ranged) in
    elim enough [
      | inl many ↦
          let kept = keys-kept f (within most) q hits same in
          let count = keys-count f (within most) q hits same in
          ap (λ ks. first_keys top.k (before ++ ks)) kept ∙ first-best top.k most before (filter_map f hits) (omega (arith, many, count, ap length kept))
      | inr whole ↦
          ap (λ ks. first_keys top.k (before ++ ks))
          (keys-all f q hits (λ d out. none-key top.order documents d (slice_index_or numbers d None)
          (none-outside low high (slice_index_or numbers d None) (wider low high range (slice_index_or numbers d None) whole.0 whole.1
          (in_range numbers range d ranged)) out)))
    ]

-- where those hits were offered, all were ranked
pub walked : (segment : SegmentValue) (top : Top) (hits : List ℕ) (range : ℕ × ℕ) (low high : ℕ) (numbers : List (Option ℕ)) (found : List ℕ)
    (old new : TopKValue) → numbers ≡ column segment top.by →
    IsRangeOf numbers (Some range) → range.1 < 2 ^ 64 → low < 2 ^ 64 → IsEnd top.order range low high → found ≡ hits_between segment top.by hits low high →
    (top.k ≤ length found) ⊎ ((low ≤ range.0) × (range.1 ≤ high)) →
    new ≡ record { k = old.k; keys = keep_keys old.k old.keys (keys_at top.order segment.documents numbers found) } → RanksMore segment top hits old new
walked segment top hits range low high numbers found old new same ranged fits small is found_is enough offered before ranked =
    let f : ℕ → Option Key = key_at top.order segment.documents (column segment top.by) in
    let between = hits_between segment top.by hits low high in
    let P : List (Option ℕ) → Type 0 = λ ns. IsRangeOf ns (Some range) in
    let Q : List ℕ → Type 0 = λ ds. (top.k ≤ length ds) ⊎ ((low ≤ range.0) × (range.1 ≤ high)) in
    ranked-more segment (Some top) top numbers found old new refl same offered before ranked
    ∙ ap (λ keys. record { k = top.k; keys = keys })
    (ap (first_keys top.k) (filter_map-append f before found ∙ ap (λ ds. filter_map f before ++ filter_map f ds) found_is)
    ∙ first-between segment top hits range low high (filter_map f before) (subst P same ranged) fits small is (subst Q found_is enough)
    ∙ ap (first_keys top.k) (sym (filter_map-append f before hits)))

-- the first of no keys
none-first : (k : ℕ) → let keys : List Key = [] in keys ≡ take k keys
none-first zero = refl
none-first (suc k) = refl

-- no hits are ranked where there are no keys
pub ranked-none : (segment : SegmentValue) (top : Top) (top_k : TopKValue) → top_k ≡ record { k = top.k; keys = [] } → HasRanked segment (Some top) [] top_k
ranked-none segment top top_k is = is ∙ ap (λ keys. record { k = top.k; keys = keys }) (none-first top.k)

-- a request fits without its top list too
pub fits-others : (schema : List Field) (request : Request) → request_fits schema request ≡ true →
    request_fits schema (record { groups = request.groups; top = None }) ≡ true
fits-others schema request fits =
    ap (λ b. b && true) (and_parts (option_map_or (is_ordered_field schema) request.groups true)
    (option_map_or (λ top. is_number_field schema top.by && is_limit top.k) request.top true) fits).0

-- what was seen for the rest of a request, and what was ranked beside it
pub seen-beside : (segment : SegmentValue) (request : Request) (top : Top) (docs : List ℕ) (seen : Seen) (top_k : TopKValue) → request.top ≡ Some top →
    HasSeen segment (record { groups = request.groups; top = None }) docs seen → HasRanked segment (Some top) docs top_k →
    HasSeen segment request docs (record { count = seen.count; tally = seen.tally; top_k = top_k })
seen-beside segment request top docs seen top_k is rest ranked =
    let P : Option Top → Type 0 = λ o. HasRanked segment o docs top_k in
    record { count = rest.count; places = rest.places; groups = rest.groups; top = subst P (sym is) ranked }
