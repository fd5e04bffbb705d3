-- Queries that must all match: what a set has and what cursors have in common.
use Rattle.std.proofs.Common.{◌≡◌, ℕ, ◌+◌, ◌<◌, ◌≤◌, ◌&&◌, Bool, true, false, not, nat_lt, None, List, [], ◌∷◌, ◌++◌, length, map, take, get_or, refl, sym, ap, ap₂, subst}
use Rattle.std.proofs.Common.{◌∙◌, inl, inr, drop, arith}
use Rattle.std.specs.List.{filter, list_all, range_with_len}
use Rattle.std.proofs.Math.Bool.{and-true, and_assoc}
use Rattle.std.proofs.lemmas.Bool.{and_parts, and_right, cases_Bool, cases_lt, false≢true, lt-ltb}
use Rattle.std.proofs.lemmas.List.{map-append, take_more}
use Rattle.std.proofs.lemmas.List.Folds.{list_all-append}
use Rattle.std.proofs.lemmas.Option.{slice_get_past}
use Rattle.std.specs.Option.{option_map_or}
use Rattle.fts_model.specs.declared.operation.Stamped.{Stamped}
use Rattle.fts_model.specs.Documents.{DocumentValue}
use Rattle.fts_model.specs.declared.query.Query.{Query}
use Rattle.fts_model.specs.Queries.{matches}
use Rattle.fts_model.specs.QueryValues.{query_value}
use Rattle.fts_model.proofs.QueriesBoolean.{matches_in}
use Rattle.fts_pack.specs.Documents.{Rises}
use Rattle.fts_postings.specs.Bounds.{most_at}
use Rattle.fts_postings.specs.Sets.{common, has, in_all, in_some, lacks, union, without}
use Rattle.fts_postings.proofs.SetLemmas.{Rises-filter}
use Rattle.fts_postings.proofs.UnionLemmas.{has-union}
use Rattle.fts_segment.specs.Segments.{SegmentValue, numbers_where}
use Rattle.fts_postings.proofs.PassingLemmas.{Rises-passing}
use Rattle.fts_sets.proofs.SetLemmas.{filter-every, has-all_below, has-filter, same_members}
use Rattle.fts_cursor.specs.Most.{most_for}
use Rattle.fts_cursor.specs.Musts.{AreMusts}
use Rattle.fts_cursor.specs.Tests.{hits_of_each}
use Rattle.fts_cursor.specs.TreeValues.{TreeValue, remains}
use Rattle.fts_cursor.proofs.HitsLemmas.{Rises-hits, Rises-numbers, has-all, hits_common, hits_of}
use Rattle.fts_cursor.proofs.ShouldsLemmas.{most_push, most_with}
use Rattle.fts_cursor.proofs.TestsLemmas.{and_turn}

-- a hit is a document
hit_inside : (segment : SegmentValue) (q : Query) (d : ℕ) → has (hits_of segment q) d ≡ true → nat_lt d (length segment.documents) ≡ true
hit_inside segment q d there =
    let p : Stamped DocumentValue → Bool = λ e. matches segment.schema e.value (query_value q) in
    elim (cases_lt d (length segment.documents)) [
      | inl inside ↦ lt-ltb d (length segment.documents) inside
      | inr past ↦ absurd (false≢true (sym (has-all p segment.documents d ∙ ap (λ s. option_map_or p s false) (slice_get_past segment.documents d past)) ∙ there))
    ]

hits_and : (segment : SegmentValue) (qs : List Query) (q : Query) (d : ℕ) →
    in_all (hits_of_each segment (qs ++ q ∷ [])) d ≡ (in_all (hits_of_each segment qs) d && has (hits_of segment q) d)
hits_and segment qs q d =
    ap (λ lists. in_all lists d) (map-append (hits_of segment) qs (q ∷ []))
    ∙ list_all-append (λ documents. has documents d) (hits_of_each segment qs) (hits_of segment q ∷ [])
    ∙ ap (λ b. in_all (hits_of_each segment qs) d && b) (and-true (has (hits_of segment q) d))

remains_and : (parts : List TreeValue) (t : TreeValue) (d : ℕ) → in_all (remains (parts ++ t ∷ [])) d ≡ (in_all (remains parts) d && has t.remaining d)
remains_and parts t d =
    ap (λ lists. in_all lists d) (map-append (λ (s : TreeValue). s.remaining) parts (t ∷ []))
    ∙ list_all-append (λ documents. has documents d) (remains parts) (t.remaining ∷ [])
    ∙ ap (λ b. in_all (remains parts) d && b) (and-true (has t.remaining d))

and_between : (s p h : Bool) → ((s && h) && p) ≡ ((s && p) && h)
and_between true true true = refl
and_between true true false = refl
and_between true false true = refl
and_between true false false = refl
and_between false p h = refl

module _ (segment : SegmentValue) (qs : List Query) (is_told : Bool) (set : List ℕ) (parts : List TreeValue) (h : AreMusts segment qs is_told set parts)
    (q : Query) where
  pub AreMusts-told : (after : List ℕ) → after ≡ filter (has (hits_of segment q)) set → AreMusts segment (qs ++ q ∷ []) true after parts
  AreMusts-told after is = record {
    same = λ d.
        ap (λ xs. has xs d && in_all (remains parts) d) is ∙ ap (λ b. b && in_all (remains parts) d) (has-filter (has (hits_of segment q)) set d)
        ∙ and_between (has set d) (in_all (remains parts) d) (has (hits_of segment q) d) ∙ ap (λ b. b && has (hits_of segment q) d) (h.same d)
        ∙ and_assoc (nat_lt d (length segment.documents)) (in_all (hits_of_each segment qs) d) (has (hits_of segment q) d)
        ∙ ap (λ b. nat_lt d (length segment.documents) && b) (sym (hits_and segment qs q d));
    rises = subst (Rises 0) (sym is) (Rises-filter 0 (has (hits_of segment q)) set h.rises);
    untold = λ none. absurd (false≢true (sym none));
    most = omega (arith, h.most, most_with segment qs q);
  }

  pub AreMusts-part : (after : List ℕ) (t : TreeValue) → after ≡ set → t.remaining ≡ hits_of segment q →
      most_at t.bound None ≤ most_for segment (query_value q) → AreMusts segment (qs ++ q ∷ []) is_told after (parts ++ t ∷ [])
  AreMusts-part after t is finds few = record {
    same = λ d.
        ap (λ xs. has xs d && in_all (remains (parts ++ t ∷ [])) d) is ∙ ap (λ b. has set d && b) (remains_and parts t d)
        ∙ sym (and_assoc (has set d) (in_all (remains parts) d) (has t.remaining d)) ∙ ap₂ (λ b xs. b && has xs d) (h.same d) finds
        ∙ and_assoc (nat_lt d (length segment.documents)) (in_all (hits_of_each segment qs) d) (has (hits_of segment q) d)
        ∙ ap (λ b. nat_lt d (length segment.documents) && b) (sym (hits_and segment qs q d));
    rises = subst (Rises 0) (sym is) h.rises;
    untold = λ none.
        map-append (λ (s : TreeValue). s.remaining) parts (t ∷ []) ∙ ap₂ (λ xs x. xs ++ x ∷ []) (h.untold none) finds
        ∙ sym (map-append (hits_of segment) qs (q ∷ []));
    most = omega (arith, h.most, most_with segment qs q, most_push parts t, few);
  }

-- none of them yet
pub AreMusts-none : (segment : SegmentValue) (set : List ℕ) (parts : List TreeValue) → set ≡ range_with_len 0 (length segment.documents) → parts ≡ [] →
    AreMusts segment [] false set parts
AreMusts-none segment set parts is none =
    let docs = range_with_len 0 (length segment.documents) in
    subst (AreMusts segment [] false set) (sym none) (record {
      same = λ d. ap (λ b. b && true) (ap (λ xs. has xs d) is ∙ has-all_below (length segment.documents) d);
      rises = subst (Rises 0) (filter-every docs ∙ sym is) (Rises-passing (λ d. true) 0 (length segment.documents));
      untold = λ _. refl;
      most = omega arith;
    })

-- the next of some queries
pub AreMusts-next : (segment : SegmentValue) (queries : List Query) (i : ℕ) (q : Query) (is_told : Bool) (set : List ℕ) (parts : List TreeValue) →
    i < length queries → q ≡ get_or queries i q → AreMusts segment (take i queries ++ q ∷ []) is_told set parts →
    AreMusts segment (take (i + 1) queries) is_told set parts
AreMusts-next segment queries i q is_told set parts inside is h =
    subst (λ qs. AreMusts segment qs is_told set parts) (ap (λ p. take i queries ++ p ∷ []) is ∙ sym (take_more queries i q inside)) h

inside_too : (segment : SegmentValue) (qs : List Query) (d : ℕ) → 0 < length qs →
    (nat_lt d (length segment.documents) && in_all (hits_of_each segment qs) d) ≡ in_all (hits_of_each segment qs) d
inside_too segment [] d some = absurd (omega (arith, some))
inside_too segment (q ∷ qs) d some =
    let all = in_all (hits_of_each segment (q ∷ qs)) d in
    elim (cases_Bool all) [
      | inl has_all ↦
          ap (λ b. b && all) (hit_inside segment q d (and_parts (has (hits_of segment q) d) (in_all (hits_of_each segment qs) d) has_all).0)
      | inr not_all ↦ and_right (nat_lt d (length segment.documents)) all not_all ∙ sym not_all
    ]

-- what the set and the cursors have in common are the documents that all queries find
pub musts_found : (segment : SegmentValue) (qs : List Query) (is_told : Bool) (set : List ℕ) (parts : List TreeValue) (xs : List ℕ) →
    AreMusts segment qs is_told set parts → 0 < length qs → ((d : ℕ) → has xs d ≡ (has set d && in_all (remains parts) d)) → Rises 0 xs →
    xs ≡ numbers_where (λ e. list_all (matches_in segment.schema e.value) qs) 0 segment.documents
musts_found segment [] is_told set parts xs h some is rises = absurd (omega (arith, some))
musts_found segment (q ∷ qs) is_told set parts xs h some is rises =
    let all = common (hits_of segment q) (map (hits_of segment) qs) in
    same_members 0 xs all rises (Rises-filter 0 (in_all (map (hits_of segment) qs)) (hits_of segment q) (Rises-hits segment q))
    (λ d. is d ∙ h.same d ∙ inside_too segment (q ∷ qs) d some ∙ sym (has-filter (in_all (map (hits_of segment) qs)) (hits_of segment q) d))
    ∙ hits_common segment q qs

-- cursors alone
pub musts_common : (segment : SegmentValue) (qs : List Query) (parts : List TreeValue) (xs : List ℕ) → remains parts ≡ hits_of_each segment qs →
    0 < length qs → ((first : TreeValue) (rest : List TreeValue) → parts ≡ first ∷ rest → xs ≡ common first.remaining (remains rest)) →
    xs ≡ numbers_where (λ e. list_all (matches_in segment.schema e.value) qs) 0 segment.documents
musts_common segment [] parts xs are some is = absurd (omega (arith, some))
musts_common segment (q ∷ qs) [] xs are some is = absurd (omega (arith, ap length are))
musts_common segment (q ∷ qs) (s ∷ rest) xs are some is =
    is s rest refl ∙ ap₂ common (ap (λ l. get_or l 0 []) are) (ap (drop 1) are) ∙ hits_common segment q qs

-- what a set that tells what isn't found leaves of some documents
pub set_apart : (segment : SegmentValue) (must_not : List Query) (p : Stamped DocumentValue → Bool) (set xs : List ℕ) → xs ≡ numbers_where p 0 segment.documents →
    ((d : ℕ) → has set d ≡ (nat_lt d (length segment.documents) && not (in_some (hits_of_each segment must_not) d))) →
    filter (has set) xs ≡ without xs (union (hits_of_each segment must_not))
set_apart segment must_not p set xs is apart =
    let those = union (hits_of_each segment must_not) in
    let up = subst (Rises 0) (sym is) (Rises-numbers p 0 segment.documents) in
    same_members 0 (filter (has set) xs) (without xs those) (Rises-filter 0 (has set) xs up) (Rises-filter 0 (lacks those) xs up)
    (λ d. has-filter (has set) xs d ∙ elim (cases_lt d (length segment.documents)) [
      | inl inside ↦
          ap (λ b. has xs d && b) (apart d ∙ ap (λ b. b && not (in_some (hits_of_each segment must_not) d)) (lt-ltb d (length segment.documents) inside)
          ∙ ap not (sym (has-union (hits_of_each segment must_not) d)))
      | inr past ↦
          let gone : has xs d ≡ false = ap (λ ys. has ys d) is ∙ has-all p segment.documents d
          ∙ ap (λ s. option_map_or p s false) (slice_get_past segment.documents d past) in
          ap (λ b. b && has set d) gone ∙ sym (ap (λ b. b && lacks those d) gone)
    ] ∙ sym (has-filter (lacks those) xs d))

-- what cursors have in common that is of a set
pub filtered_has : (set : List ℕ) (parts : List TreeValue) (xs ys : List ℕ) (d : ℕ) → 0 < length parts →
    ((first : TreeValue) (rest : List TreeValue) → parts ≡ first ∷ rest → ys ≡ common first.remaining (remains rest)) → xs ≡ filter (has set) ys →
    has xs d ≡ (has set d && in_all (remains parts) d)
filtered_has set [] xs ys d some is kept = absurd (omega (arith, some))
filtered_has set (s ∷ rest) xs ys d some is kept =
    ap (λ zs. has zs d) kept ∙ has-filter (has set) ys d ∙ and_turn (has ys d) (has set d)
    ∙ ap (λ b. has set d && b) (ap (λ zs. has zs d) (is s rest refl) ∙ has-filter (in_all (remains rest)) s.remaining d)
