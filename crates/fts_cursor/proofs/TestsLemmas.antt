-- What tests of documents tell of the hits of a query.
use Rattle.std.proofs.Common.{◌≡◌, ℕ, ◌+◌, ◌<◌, Bool, true, false, not, ◌&&◌, ◌||◌, List, [], ◌∷◌, ◌++◌, get_or, length, map, take, refl, sym, ap, ap₂}
use Rattle.std.proofs.Common.{◌∙◌, inl, inr, arith}
use Rattle.std.specs.Prelude.{nat_lt}
use Rattle.std.specs.List.{filter, range_with_len}
use Rattle.std.specs.Option.{option_map_or}
use Rattle.std.proofs.lemmas.Bool.{cases_lt, le-ltb, lt-ltb}
use Rattle.std.proofs.lemmas.List.{get_or_past}
use Rattle.std.proofs.lemmas.List.Folds.{list_all-append, list_any-append}
use Rattle.std.proofs.lemmas.Option.{slice_get_past}
use Rattle.std.proofs.Math.Bool.{and-true, or-false}
use Rattle.fts_model.specs.declared.operation.Stamped.{Stamped}
use Rattle.fts_model.specs.declared.query.Query.{Query}
use Rattle.fts_model.specs.Documents.{DocumentValue}
use Rattle.fts_model.specs.Queries.{matches}
use Rattle.fts_model.specs.QueryValues.{every, query_value}
use Rattle.fts_segment.specs.Segments.{SegmentValue, numbers_where}
use Rattle.fts_postings.specs.Sets.{has, in_all, in_some, lacks, union}
use Rattle.fts_postings.proofs.PassingLemmas.{Rises-passing}
use Rattle.fts_postings.proofs.SetLemmas.{Rises-filter}
use Rattle.fts_postings.proofs.UnionLemmas.{has-union}
use Rattle.fts_sets.specs.declared.leaf.Leaf.{Leaf}
use Rattle.fts_sets.specs.Leaves.{leaf_has, one_has}
use Rattle.fts_sets.proofs.SetLemmas.{filter-agree, filter-and, has-filter, has-passing, has-range, past-range, same_members}
use Rattle.fts_cursor.specs.Hits.{is_live, live_hits, segment_hits}
use Rattle.fts_cursor.specs.Tests.{HasMore, hits_of_each, is_kept}
use Rattle.fts_cursor.proofs.BoolHits.{IsBool, all_kept, bool_apart, bool_kept, kept_by, should_hits}
use Rattle.fts_cursor.proofs.HitsLemmas.{Rises-hits, at_true, has-all, hits_common, hits_of}
use Rattle.fts_cursor.proofs.SplitLemmas.{hits_more}

-- one test more
pub HasMore-one : (test : ℕ → Bool) (tests : List Leaf) (t : Leaf) → ((d : ℕ) → leaf_has t d ≡ test d) → HasMore test tests (tests ++ t ∷ [])
HasMore-one test tests t is d = list_any-append (λ u. leaf_has u d) tests (t ∷ []) ∙ ap (λ b. one_has tests d || b) (or-false (leaf_has t d) ∙ is d)

-- none more, where none is meant
pub HasMore-none : (test : ℕ → Bool) (tests : List Leaf) → ((d : ℕ) → test d ≡ false) → HasMore test tests tests
HasMore-none test tests none d = sym (ap (λ b. one_has tests d || b) (none d) ∙ or-false (one_has tests d))

-- the first documents are all
pub first_hits : (segment : SegmentValue) (d : ℕ) → nat_lt d (length segment.documents) ≡ has (segment_hits segment every) d
first_hits segment d =
    let p : Stamped DocumentValue → Bool = λ e. true in
    sym (has-all p segment.documents d ∙ elim (cases_lt d (length segment.documents)) [
      | inl inside ↦ sym (at_true segment.documents d inside) ∙ sym (lt-ltb d (length segment.documents) inside)
      | inr past ↦ ap (λ s. option_map_or p s false) (slice_get_past segment.documents d past) ∙ sym (le-ltb d (length segment.documents) past)
    ])

-- a Boolean query with shoulds alone
pub shoulds_are : (segment : SegmentValue) (query : Query) (must must_not should : List Query) → IsBool segment query must must_not should → must ≡ [] →
    must_not ≡ [] →
    (d : ℕ) → in_some (hits_of_each segment should) d ≡ has (hits_of segment query) d
shoulds_are segment query must must_not should bool none gone d =
    let all = union (map (hits_of segment) should) in
    sym (has-union (map (hits_of segment) should) d)
    ∙ ap (λ xs. has xs d) (bool_kept segment query must must_not should all bool gone (should_hits segment must should none))

pub kept_are : (segment : SegmentValue) (must should : List Query) (d : ℕ) →
    is_kept (hits_of_each segment must) (hits_of_each segment should) d ≡ has (numbers_where (kept_by segment.schema must should) 0 segment.documents) d
kept_are segment [] should d = sym (has-union (map (hits_of segment) should) d) ∙ ap (λ xs. has xs d) (should_hits segment [] should refl)
kept_are segment (q ∷ qs) should d =
    sym (has-filter (in_all (map (hits_of segment) qs)) (hits_of segment q) d)
    ∙ ap (λ xs. has xs d) (hits_common segment q qs ∙ all_kept segment (q ∷ qs) should (omega arith))

-- a Boolean query: what is kept of a set, without what is dropped, are the hits in the set
pub told_bool : (segment : SegmentValue) (query : Query) (must must_not should : List Query) (dropped : List Leaf) (set : List ℕ) →
    IsBool segment query must must_not should → HasMore (in_some (hits_of_each segment must_not)) [] dropped →
    filter (λ d. not (one_has dropped d)) (filter (is_kept (hits_of_each segment must) (hits_of_each segment should)) set) ≡ filter (has (hits_of segment query)) set
told_bool segment query must must_not should dropped set bool drops =
    let these = numbers_where (kept_by segment.schema must should) 0 segment.documents in
    let those = union (map (hits_of segment) must_not) in
    let kept = is_kept (hits_of_each segment must) (hits_of_each segment should) in
    filter-and (λ d. not (one_has dropped d)) kept set
    ∙ filter-agree (λ d. kept d && not (one_has dropped d)) (has (hits_of segment query)) set
    (λ d. ap₂ (λ a b. a && not b) (kept_are segment must should d) (drops d ∙ sym (has-union (map (hits_of segment) must_not) d))
    ∙ sym (has-filter (lacks those) these d)
    ∙ ap (λ xs. has xs d) (bool_apart segment query must must_not should these those bool refl refl))

-- some of a set, by tests one of which is passed
pub kept_more : (test : ℕ → Bool) (leaves : List Leaf) (set : List ℕ) → HasMore test [] leaves → filter (one_has leaves) set ≡ filter test set
kept_more test leaves set more = filter-agree (one_has leaves) test set more

-- what matches each of some musts
pub kept_all : (segment : SegmentValue) (must should : List Query) (set : List ℕ) → 0 < length must →
    filter (in_all (hits_of_each segment must)) set ≡ filter (is_kept (hits_of_each segment must) (hits_of_each segment should)) set
kept_all segment [] should set some = absurd (omega (arith, some))
kept_all segment (q ∷ qs) should set some = refl

pub kept_some : (segment : SegmentValue) (must should : List Query) (set : List ℕ) → must ≡ [] →
    filter (in_some (hits_of_each segment should)) set ≡ filter (is_kept (hits_of_each segment must) (hits_of_each segment should)) set
kept_some segment must should set none = ap (λ qs. filter (is_kept (hits_of_each segment qs) (hits_of_each segment should)) set) (sym none)

pub and_turn : (l h : Bool) → (l && h) ≡ (h && l)
and_turn true true = refl
and_turn true false = refl
and_turn false true = refl
and_turn false false = refl

-- the live ones of those that are hits
pub told_hits : (segment : SegmentValue) (query : Query) (live : List Bool) (docs : ℕ) → length live ≡ docs →
    filter (has (hits_of segment query)) (filter (is_live live) (range_with_len 0 docs)) ≡ live_hits segment live (query_value query)
told_hits segment query live docs same =
    let range = range_with_len 0 docs in
    let test = has (hits_of segment query) in
    same_members 0 (filter test (filter (is_live live) range)) (live_hits segment live (query_value query))
    (Rises-filter 0 test (filter (is_live live) range) (Rises-passing (is_live live) 0 docs))
    (Rises-filter 0 (is_live live) (hits_of segment query) (Rises-hits segment query))
    (λ d. has-filter test (filter (is_live live) range) d ∙ ap (λ a. a && test d) (has-filter (is_live live) range d) ∙ elim (cases_lt d docs) [
      | inl inside ↦
          ap (λ a. (a && is_live live d) && test d) (has-range 0 docs d (omega arith) (omega (arith, inside))) ∙ and_turn (is_live live d) (test d)
      | inr past ↦
          ap (λ a. (a && is_live live d) && test d) (past-range 0 docs d (omega (arith, past)))
          ∙ sym (and_turn (test d) (is_live live d) ∙ ap (λ a. a && test d) (get_or_past live d false (omega (arith, past, same))))
    ] ∙ sym (has-filter (is_live live) (hits_of segment query) d))

-- the hits among all documents
pub told_all : (segment : SegmentValue) (query : Query) →
    filter (has (hits_of segment query)) (range_with_len 0 (length segment.documents)) ≡ hits_of segment query
told_all segment query =
    let n = length segment.documents in
    let hits = hits_of segment query in
    let p : Stamped DocumentValue → Bool = λ e. matches segment.schema e.value (query_value query) in
    same_members 0 (filter (has hits) (range_with_len 0 n)) hits (Rises-passing (has hits) 0 n) (Rises-hits segment query)
    (λ d. has-passing (has hits) n d
    (λ past. has-all p segment.documents d ∙ ap (λ s. option_map_or p s false) (slice_get_past segment.documents d past)))

-- what matches one must more
pub each_more : (segment : SegmentValue) (queries : List Query) (i : ℕ) (q : Query) → i < length queries → q ≡ get_or queries i q →
    (d : ℕ) → (in_all (hits_of_each segment (take i queries)) d && has (hits_of segment q) d) ≡ in_all (hits_of_each segment (take (i + 1) queries)) d
each_more segment queries i q inside is d =
    let so_far = in_all (hits_of_each segment (take i queries)) d in
    ap (λ b. so_far && b) (sym (and-true (has (hits_of segment q) d)))
    ∙ sym (list_all-append (λ documents. has documents d) (hits_of_each segment (take i queries)) (hits_of segment q ∷ []))
    ∙ ap (λ lists. in_all lists d) (hits_more segment queries i q inside is)
