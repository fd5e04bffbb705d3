-- The documents of a Boolean query, by those of the queries in it, and those of which all bits are set.
use Rattle.std.proofs.Common.{◌≡◌, ℕ, zero, suc, ◌+◌, ◌<◌, ◌≤◌, ◌==◌, Bool, true, false, not, ◌&&◌, ◌||◌, List, [], ◌∷◌, ◌++◌, get_or, length, map, take}
use Rattle.std.proofs.Common.{refl, sym, ap, ap₂, subst, ◌∙◌, inl, inr, arith}
use Rattle.std.specs.Prelude.{if◌then◌else◌}
use Rattle.std.specs.List.{AllZip, list_all, list_any}
use Rattle.std.specs.Option.{option_map_or}
use Rattle.std.proofs.lemmas.Bool.{cases_lt, false≢true}
use Rattle.std.proofs.lemmas.List.{take_more}
use Rattle.std.proofs.lemmas.Option.{slice_get_past}
use Rattle.fts_model.specs.declared.operation.Stamped.{Stamped}
use Rattle.fts_model.specs.declared.query.Query.{Query}
use Rattle.fts_model.specs.declared.schema.Field.{Field}
use Rattle.fts_model.specs.Documents.{DocumentValue}
use Rattle.fts_model.specs.Queries.{is_nonempty, matches}
use Rattle.fts_model.specs.QueryValues.{QueryValue}
use Rattle.fts_model.proofs.QueriesBoolean.{matches_in}
use Rattle.fts_pack.proofs.BitsLemmas.{each_set}
use Rattle.fts_segment.specs.Segments.{SegmentValue, numbers_where}
use Rattle.fts_segment.proofs.HoldingLemmas.{numbers_where-same}
use Rattle.fts_cursor.specs.Hits.{is_live, live_hits, segment_hits}
use Rattle.fts_postings.specs.Sets.{union, without}
use Rattle.fts_postings.proofs.SetLemmas.{Rises-filter}
use Rattle.fts_cursor.proofs.HitsLemmas.{Rises-numbers, has-all, hits_apart, hits_of, hits_union, numbers_are, test_at}
use Rattle.fts_sets.proofs.SetLemmas.{has-filter}

-- all musts match, and where there is none one of the shoulds
abbrev pub kept_by : List Field → List Query → List Query → Stamped DocumentValue → Bool
kept_by schema must should e = list_all (matches_in schema e.value) must && (is_nonempty must || list_any (matches_in schema e.value) should)

and_true : (b : Bool) → b ≡ (b && true)
and_true true = refl
and_true false = refl

and_late : (a b c : Bool) → ((a && c) && not b) ≡ (a && not b && c)
and_late true true true = refl
and_late true true false = refl
and_late true false true = refl
and_late true false false = refl
and_late false b c = refl

-- the shoulds alone
pub should_hits : (segment : SegmentValue) (must should : List Query) → must ≡ [] →
    union (map (hits_of segment) should) ≡ numbers_where (kept_by segment.schema must should) 0 segment.documents
should_hits segment must should none = hits_union segment should ∙ ap (λ qs. numbers_where (kept_by segment.schema qs should) 0 segment.documents) (sym none)

or_false : (b : Bool) → b ≡ (b || false)
or_false true = refl
or_false false = refl

-- a list of one is that one
pub only_one : (queries : List Query) (q : Query) → q ≡ get_or queries 0 q → 1 ≤ length queries → length queries < 2 → queries ≡ q ∷ []
only_one [] q is some few = absurd (omega (arith, some))
only_one (p ∷ []) q is some few = ap (λ x. x ∷ []) (sym is)
only_one (p ∷ r ∷ qs) q is some few = absurd (omega (arith, few))

-- one query alone
pub single_hits : (segment : SegmentValue) (q : Query) → hits_of segment q ≡ union (map (hits_of segment) (q ∷ []))
single_hits segment q =
    numbers_where-same (λ (e : Stamped DocumentValue). matches_in segment.schema e.value q) (λ e. list_any (matches_in segment.schema e.value) (q ∷ [])) 0
    segment.documents
    (λ k d inside. or_false (matches_in segment.schema (get_or segment.documents k d).value q)) ∙ sym (hits_union segment (q ∷ []))

-- the documents that all musts find
pub all_kept : (segment : SegmentValue) (must should : List Query) → 0 < length must →
    numbers_where (λ e. list_all (matches_in segment.schema e.value) must) 0 segment.documents ≡ numbers_where (kept_by segment.schema must should) 0
    segment.documents
all_kept segment [] should some = absurd (omega (arith, some))
all_kept segment (q ∷ qs) should some =
    numbers_where-same (λ (e : Stamped DocumentValue). list_all (matches_in segment.schema e.value) (q ∷ qs)) (kept_by segment.schema (q ∷ qs) should) 0
    segment.documents
    (λ k d inside. and_true (list_all (matches_in segment.schema (get_or segment.documents k d).value) (q ∷ qs)))

-- what a Boolean query is
abbrev pub IsBool : SegmentValue → Query → List Query → List Query → List Query → Type 0
IsBool segment query must must_not should =
    (document : DocumentValue) →
    matches_in segment.schema document query
    ≡ (list_all (matches_in segment.schema document) must && not (list_any (matches_in segment.schema document) must_not) &&
    (is_nonempty must || list_any (matches_in segment.schema document) should))

-- one without must-nots
pub bool_kept : (segment : SegmentValue) (query : Query) (must must_not should : List Query) (kept : List ℕ) → IsBool segment query must must_not should →
    must_not ≡ [] → kept ≡ numbers_where (kept_by segment.schema must should) 0 segment.documents → kept ≡ hits_of segment query
bool_kept segment query must must_not should kept bool none is =
    is ∙ numbers_where-same (kept_by segment.schema must should) (λ e. matches_in segment.schema e.value query) 0 segment.documents
    (λ k d inside.
    let document = (get_or segment.documents k d).value in
    ap (λ b. b && (is_nonempty must || list_any (matches_in segment.schema document) should)) (and_true (list_all (matches_in segment.schema document) must))
    ∙ ap (λ qs. list_all (matches_in segment.schema document) must && not (list_any (matches_in segment.schema document) qs) &&
    (is_nonempty must || list_any (matches_in segment.schema document) should)) (sym none) ∙ sym (bool document))

-- one with some
pub bool_apart : (segment : SegmentValue) (query : Query) (must must_not should : List Query) (kept dropped : List ℕ) →
    IsBool segment query must must_not should → kept ≡ numbers_where (kept_by segment.schema must should) 0 segment.documents →
    dropped ≡ union (map (hits_of segment) must_not) → without kept dropped ≡ hits_of segment query
bool_apart segment query must must_not should kept dropped bool is are =
    let q : Stamped DocumentValue → Bool = λ e. list_any (matches_in segment.schema e.value) must_not in
    ap₂ without is (are ∙ hits_union segment must_not) ∙ hits_apart (kept_by segment.schema must should) q segment.documents
    ∙ numbers_where-same (λ e. kept_by segment.schema must should e && not (q e)) (λ e. matches_in segment.schema e.value query) 0 segment.documents
    (λ k d inside.
    let document = (get_or segment.documents k d).value in
    and_late (list_all (matches_in segment.schema document) must) (list_any (matches_in segment.schema document) must_not)
    (is_nonempty must || list_any (matches_in segment.schema document) should) ∙ sym (bool document))

-- where all bits are set, all documents are live
pub all_live : (segment : SegmentValue) (live : List Bool) (query : QueryValue) → length live ≡ length segment.documents →
    list_all (λ bit. bit) live ≡ true → segment_hits segment query ≡ live_hits segment live query
all_live segment live query long all =
    let p : Stamped DocumentValue → Bool = λ e. matches segment.schema e.value query in
    sym (numbers_are p segment.documents (live_hits segment live query) (Rises-filter 0 (is_live live) (segment_hits segment query)
    (Rises-numbers p 0 segment.documents))
    (λ d. has-filter (is_live live) (segment_hits segment query) d ∙ ap (λ b. b && is_live live d) (has-all p segment.documents d)
    ∙ elim (cases_lt d (length segment.documents)) [
      | inl inside ↦ ap (λ b. test_at p segment.documents d && b) (each_set live d all (omega (arith, inside, long)))
          ∙ sym (and_true (test_at p segment.documents d))
      | inr past ↦ ap (λ s. option_map_or p s false && is_live live d) (slice_get_past segment.documents d past)
          ∙ sym (ap (λ s. option_map_or p s false) (slice_get_past segment.documents d past))
    ]))

-- lists that go together, with one more
push_both : {A B : Type 0} (R : A → B → Type 0) (xs : List A) (ys : List B) (x : A) (y : B) → AllZip R xs ys → R x y → AllZip R (xs ++ x ∷ []) (ys ++ y ∷ [])
push_both R [] [] x y h r = (r, tt)
push_both R [] (w ∷ ws) x y h r = absurd h
push_both R (v ∷ vs) [] x y h r = absurd h
push_both R (v ∷ vs) (w ∷ ws) x y h r = (h.0, push_both R vs ws x y h.1 r)

pub more_paired : {A B : Type 0} (R : A → B → Type 0) (xs : List A) (ys : List B) (k : ℕ) (x : A) (y : B) → AllZip R (take k xs) ys → k < length xs →
    x ≡ get_or xs k x → R x y → AllZip R (take (k + 1) xs) (ys ++ y ∷ [])
more_paired R xs ys k x y h inside is r = subst (λ zs. AllZip R zs (ys ++ y ∷ [])) (ap (λ z. take k xs ++ z ∷ []) is ∙ sym (take_more xs k x inside))
    (push_both R (take k xs) ys x y h r)

pub paired_more : {A B : Type 0} (R : A → B → Type 0) (xs : List A) (ys : List B) (k : ℕ) (x : A) (y : B) → AllZip R xs (take k ys) → k < length ys →
    y ≡ get_or ys k y → R x y → AllZip R (xs ++ x ∷ []) (take (k + 1) ys)
paired_more R xs ys k x y h inside is r = subst (λ zs. AllZip R (xs ++ x ∷ []) zs) (ap (λ z. take k ys ++ z ∷ []) is ∙ sym (take_more ys k y inside))
    (push_both R xs (take k ys) x y h r)

pub one_or_none : (b : Bool) (n : ℕ) → n ≡ (if b then 1 else 0) → n < 2
one_or_none true n is = omega (arith, is)
one_or_none false n is = omega (arith, is)

pub some_from : (n : ℕ) → (n == 0) ≡ false → 0 < n
some_from zero h = absurd (false≢true (sym h))
some_from (suc n) h = omega arith
