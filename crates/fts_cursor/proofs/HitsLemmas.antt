-- The documents that match, as the members of rising lists.
use Rattle.std.proofs.Common.{◌≡◌, ℕ, zero, suc, ◌+◌, ◌<◌, Bool, true, false, not, cond, ◌&&◌, ◌||◌, Option, Some, None, List, [], ◌∷◌, length, map}
use Rattle.std.proofs.Common.{refl, sym, ap, ap₂, subst, ◌∙◌, inl, inr, arith}
use Rattle.std.specs.List.{list_all, list_any, range_with_len, slice_get}
use Rattle.std.specs.Option.{option_map_or}
use Rattle.std.proofs.lemmas.Bool.{cases_lt}
use Rattle.fts_pack.specs.Documents.{Rises}
use Rattle.fts_model.specs.declared.query.Query.{Query}
use Rattle.fts_model.specs.QueryValues.{query_value}
use Rattle.fts_model.proofs.QueriesBoolean.{matches_in}
use Rattle.fts_segment.specs.Segments.{SegmentValue, numbers_where}
use Rattle.fts_segment.proofs.HoldingLemmas.{numbers_where-cons}
use Rattle.fts_cursor.specs.Hits.{segment_hits}
use Rattle.fts_postings.specs.Sets.{common, has, in_all, in_some, lacks, union, without}
use Rattle.fts_postings.specs.Windows.{passing}
use Rattle.fts_model.specs.declared.operation.Stamped.{Stamped}
use Rattle.fts_model.specs.declared.schema.Field.{Field}
use Rattle.fts_model.specs.Documents.{DocumentValue}
use Rattle.std.proofs.lemmas.Option.{slice_get_past}
use Rattle.fts_postings.proofs.PassingLemmas.{Rises-passing}
use Rattle.fts_postings.proofs.SetLemmas.{Rises-filter, Rises-lower, above_is_other, has-below, is_itself}
use Rattle.fts_postings.proofs.UnionLemmas.{Rises-union, has-union}
use Rattle.fts_sets.proofs.SetLemmas.{has-filter, has-range, past-range, same_members}

-- whether the element of this number is there, and passes
abbrev pub test_at : {X : Type 0} → (X → Bool) → List X → ℕ → Bool
test_at p xs n = option_map_or p (slice_get xs n) false

pub Rises-numbers : {X : Type 0} (p : X → Bool) (k : ℕ) (xs : List X) → Rises k (numbers_where p k xs)
Rises-numbers p k [] = tt
Rises-numbers p k (x ∷ xs) =
    let rest : Rises (k + 1) (numbers_where p (k + 1) xs) = Rises-numbers p (k + 1) xs in
    let next : k + 1 ≡ suc k = omega arith in
    let up : Rises (suc k) (numbers_where p (k + 1) xs) = subst (λ n. Rises n (numbers_where p (k + 1) xs)) next rest in
    rw numbers_where-cons (elim (p x) as (λ b. Rises k (cond b (k ∷ numbers_where p (k + 1) xs) (numbers_where p (k + 1) xs))) [
      | true ↦ (omega arith, up)
      | false ↦ Rises-lower (k + 1) k (numbers_where p (k + 1) xs) (omega arith) rest
    ])

-- a list of numbers has those whose elements pass
pub has-numbers : {X : Type 0} (p : X → Bool) (k : ℕ) (xs : List X) (n : ℕ) → has (numbers_where p k xs) (k + n) ≡ test_at p xs n
has-numbers p k [] n = refl
has-numbers p k (x ∷ xs) zero =
    let here : k + 0 ≡ k = omega arith in
    let past = has-below (k + 1) (numbers_where p (k + 1) xs) k (Rises-numbers p (k + 1) xs) (omega arith) in
    ap₂ has (numbers_where-cons p k x xs) here
    ∙ elim (p x) as (λ b. has (cond b (k ∷ numbers_where p (k + 1) xs) (numbers_where p (k + 1) xs)) k ≡ b) [
      | true ↦ ap (λ b. b || has (numbers_where p (k + 1) xs) k) (is_itself k)
      | false ↦ past
    ]
has-numbers p k (x ∷ xs) (suc n) =
    let there : k + suc n ≡ k + 1 + n = omega arith in
    let rest = ap (has (numbers_where p (k + 1) xs)) there ∙ has-numbers p (k + 1) xs n in
    ap (λ ns. has ns (k + suc n)) (numbers_where-cons p k x xs)
    ∙ elim (p x) as (λ b. has (cond b (k ∷ numbers_where p (k + 1) xs) (numbers_where p (k + 1) xs)) (k + suc n) ≡ test_at p xs n) [
      | true ↦ ap (λ b. b || has (numbers_where p (k + 1) xs) (k + suc n)) (above_is_other k (k + suc n) (omega arith)) ∙ rest
      | false ↦ rest
    ]

-- the documents of a segment that a query of the code finds
abbrev pub hits_of : SegmentValue → Query → List ℕ
hits_of segment query = segment_hits segment (query_value query)

abbrev pub hit_at : SegmentValue → ℕ → Query → Bool
hit_at segment d query = test_at (λ e. matches_in segment.schema e.value query) segment.documents d

pub has-hits : (segment : SegmentValue) (query : Query) (d : ℕ) → has (hits_of segment query) d ≡ hit_at segment d query
has-hits segment query d =
    let start : d ≡ 0 + d = omega arith in
    ap (has (hits_of segment query)) start ∙ has-numbers (λ e. matches_in segment.schema e.value query) 0 segment.documents d

pub Rises-hits : (segment : SegmentValue) (query : Query) → Rises 0 (hits_of segment query)
Rises-hits segment query = Rises-numbers (λ e. matches_in segment.schema e.value query) 0 segment.documents

-- each of the lists of some queries has a document, where it is a hit of each
pub in_all-hits : (segment : SegmentValue) (queries : List Query) (d : ℕ) → in_all (map (hits_of segment) queries) d ≡ list_all (hit_at segment d) queries
in_all-hits segment [] d = refl
in_all-hits segment (q ∷ qs) d = ap₂ (λ a b. a && b) (has-hits segment q d) (in_all-hits segment qs d)

pub in_some-hits : (segment : SegmentValue) (queries : List Query) (d : ℕ) → in_some (map (hits_of segment) queries) d ≡ list_any (hit_at segment d) queries
in_some-hits segment [] d = refl
in_some-hits segment (q ∷ qs) d = ap₂ (λ a b. a || b) (has-hits segment q d) (in_some-hits segment qs d)

pub has-all : {X : Type 0} (p : X → Bool) (xs : List X) (n : ℕ) → has (numbers_where p 0 xs) n ≡ test_at p xs n
has-all p xs n =
    let start : n ≡ 0 + n = omega arith in
    ap (has (numbers_where p 0 xs)) start ∙ has-numbers p 0 xs n

-- a rising list has the documents that pass a test
pub numbers_are : {X : Type 0} (p : X → Bool) (xs : List X) (ys : List ℕ) → Rises 0 ys → ((d : ℕ) → has ys d ≡ test_at p xs d) → ys ≡ numbers_where p 0 xs
numbers_are p xs ys up is = same_members 0 ys (numbers_where p 0 xs) up (Rises-numbers p 0 xs) (λ d. is d ∙ sym (has-all p xs d))

pub at_all : (schema : List Field) (s : Option (Stamped DocumentValue)) (first : Query) (rest : List Query) →
    (option_map_or (λ e. matches_in schema e.value first) s false && list_all (λ q. option_map_or (λ e. matches_in schema e.value q) s false) rest)
    ≡ option_map_or (λ e. list_all (matches_in schema e.value) (first ∷ rest)) s false
at_all schema None first rest = refl
at_all schema (Some e) first rest = refl

none_any : (qs : List Query) → list_any (λ q. false) qs ≡ false
none_any [] = refl
none_any (q ∷ qs) = none_any qs

at_any : (schema : List Field) (s : Option (Stamped DocumentValue)) (queries : List Query) →
    list_any (λ q. option_map_or (λ e. matches_in schema e.value q) s false) queries ≡ option_map_or (λ e. list_any (matches_in schema e.value) queries) s false
at_any schema None queries = none_any queries
at_any schema (Some e) queries = refl

at_apart : {X : Type 0} (p q : X → Bool) (s : Option X) → (option_map_or p s false && not (option_map_or q s false))
    ≡ option_map_or (λ e. p e && not (q e)) s false
at_apart p q None = refl
at_apart p q (Some e) = refl

-- the hits of all of some queries
pub hits_common : (segment : SegmentValue) (first : Query) (rest : List Query) → common (hits_of segment first) (map (hits_of segment) rest)
    ≡ numbers_where (λ e. list_all (matches_in segment.schema e.value) (first ∷ rest)) 0 segment.documents
hits_common segment first rest =
    numbers_are _ segment.documents (common (hits_of segment first) (map (hits_of segment) rest)) (Rises-filter 0 (in_all (map (hits_of segment) rest))
    (hits_of segment first) (Rises-hits segment first))
    (λ d. has-filter (in_all (map (hits_of segment) rest)) (hits_of segment first) d ∙ ap₂ (λ a b. a && b) (has-hits segment first d)
    (in_all-hits segment rest d) ∙ at_all segment.schema (slice_get segment.documents d) first rest)

-- the hits of some of some queries
pub hits_union : (segment : SegmentValue) (queries : List Query) →
    union (map (hits_of segment) queries) ≡ numbers_where (λ e. list_any (matches_in segment.schema e.value) queries) 0 segment.documents
hits_union segment queries =
    numbers_are _ segment.documents (union (map (hits_of segment) queries)) (Rises-union (map (hits_of segment) queries))
    (λ d. has-union (map (hits_of segment) queries) d ∙ in_some-hits segment queries d ∙ at_any segment.schema (slice_get segment.documents d) queries)

-- the hits of one test without those of another
pub hits_apart : {X : Type 0} (p q : X → Bool) (xs : List X) → without (numbers_where p 0 xs) (numbers_where q 0 xs)
    ≡ numbers_where (λ e. p e && not (q e)) 0 xs
hits_apart p q xs =
    numbers_are _ xs (without (numbers_where p 0 xs) (numbers_where q 0 xs)) (Rises-filter 0 (lacks (numbers_where q 0 xs)) (numbers_where p 0 xs)
    (Rises-numbers p 0 xs))
    (λ d. has-filter (lacks (numbers_where q 0 xs)) (numbers_where p 0 xs) d ∙ ap₂ (λ a b. a && not b) (has-all p xs d) (has-all q xs d) ∙ at_apart p q
    (slice_get xs d))

-- those of a range of numbers that pass
pub passing_are : {X : Type 0} (p : X → Bool) (xs : List X) (test : ℕ → Bool) → ((d : ℕ) → d < length xs → test d ≡ test_at p xs d) →
    passing test 0 (length xs) ≡ numbers_where p 0 xs
passing_are p xs test is =
    numbers_are p xs (passing test 0 (length xs)) (Rises-passing test 0 (length xs))
    (λ d. has-filter test (range_with_len 0 (length xs)) d ∙ elim (cases_lt d (length xs)) [
      | inl inside ↦ ap (λ b. b && test d) (has-range 0 (length xs) d (omega arith) (omega (arith, inside))) ∙ is d inside
      | inr past ↦ ap (λ b. b && test d) (past-range 0 (length xs) d (omega (arith, past))) ∙ sym (ap (λ s. option_map_or p s false) (slice_get_past xs d past))
    ])

pub at_true : {X : Type 0} (xs : List X) (d : ℕ) → d < length xs → true ≡ test_at (λ x. true) xs d
at_true [] d inside = absurd (omega arith)
at_true (x ∷ xs) zero inside = refl
at_true (x ∷ xs) (suc d) inside = at_true xs d (omega (arith, inside))
