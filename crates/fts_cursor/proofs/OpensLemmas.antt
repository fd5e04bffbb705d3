-- What the cursor of a query opens, by the queries in it.
use Rattle.std.proofs.Common.{◌≡◌, ◌≢◌, ℕ, ◌+◌, ◌<◌, ◌≤◌, Bool, true, false, not, ◌&&◌, Option, None, List, [], ◌∷◌, length, map, refl}
use Rattle.std.proofs.Common.{sym, ap, ap₂, subst, ◌∙◌, inl, inr, arith}
use Rattle.std.specs.Prelude.{if◌then◌else◌}
use Rattle.std.specs.List.{filter, list_all}
use Rattle.std.proofs.lemmas.Bool.{and_parts, false≢true}
use Rattle.std.proofs.lemmas.List.{length-map}
use Rattle.fts_model.specs.declared.operation.Term.{Term}
use Rattle.fts_model.specs.declared.query.Query.{Query}
use Rattle.fts_model.specs.declared.query.Query.TheOpen.{Query-F}
use Rattle.fts_model.specs.declared.query.Query.TheViews as views
use Rattle.fts_model.specs.declared.query.Query.TheVariants as variants
use Rattle.fts_model.specs.declared.query.Query.TheFolds.{fold-roll-Query}
use Rattle.fts_model.specs.QueryValues.{QueryValue, QueryValues, every, nothing, term, phrase, range, boolean, no_queries, query_list, query_value, value_by_parts}
use Rattle.fts_model.specs.declared.schema.Field.{Field}
use Rattle.fts_model.specs.Queries.{matches}
use Rattle.fts_model.proofs.QueriesBoolean.{fits_in, query_fits_at_bool}
use Rattle.fts_segment.proofs.HoldingLemmas.{numbers_where-none}
use Rattle.fts_segment.specs.Segments.{SegmentValue, numbers_where, postings}
use Rattle.fts_cursor.specs.Builds.{is_term}
use Rattle.fts_cursor.specs.Most.{Opens, are_mixed, are_terms, is_free, hits_each, least_for, most_for, most_for_all}
use Rattle.fts_cursor.specs.Hits.{segment_hits}
use Rattle.fts_cursor.specs.Openings.{bound_for_musts, bound_of_all}
use Rattle.fts_cursor.specs.Standing.{Standing, Walked, at_most}
use Rattle.fts_cursor.specs.TreeValues.{TreeValue}
use Rattle.fts_postings.specs.Bounds.{Bound, most_at}
use Rattle.fts_postings.specs.Sets.{union}
use Rattle.fts_cursor.proofs.BoolHits.{all_kept, kept_by, should_hits}
use Rattle.fts_cursor.proofs.HitsLemmas.{hits_of}
use Rattle.fts_cursor.proofs.LeadingLemmas.{all_hits}
use Rattle.fts_cursor.proofs.MostLemmas.{are_all_terms, hits_are_each}

-- one with must-nots
pub opens_without : (segment : SegmentValue) (query : QueryValue) (must should : QueryValues) (dropped : List Query) (s : Standing) →
    query ≡ boolean must (query_list (map query_value dropped)) should → 0 < length dropped → most_at s.bound None ≤ most_for segment query →
    Opens segment query s
opens_without segment query must should [] s is some most = absurd (omega (arith, some))
opens_without segment query must should (q ∷ qs) s is some most = record {
  most = most;
  least = subst (λ v. least_for segment v ≤ s.openings) (sym is) (omega arith);
  one_term = λ u h. elim h [ inl e ↦ absurd (cc) | inr e ↦ absurd (cc) ];
  list = λ u h. elim h [ inl e ↦ absurd (cc) | inr e ↦ absurd (cc) ];
  musts = λ terms e doc. absurd (cc);
  opened = λ terms e more. absurd (cc);
}

-- terms as queries of the code
terms_are : (qs : List Query) (terms : List Term) → query_list (map query_value qs) ≡ query_list (map term terms) → map query_value qs ≡ map term terms
terms_are [] [] e = refl
terms_are [] (t ∷ ts) e = absurd (cc)
terms_are (q ∷ qs) [] e = absurd (cc)
terms_are (q ∷ qs) (t ∷ ts) e =
    let first : query_value q ≡ term t = cc in
    let rest : query_list (map query_value qs) ≡ query_list (map term ts) = cc in
    ap₂ (λ x xs. x ∷ xs) first (terms_are qs ts rest)

are_all : (qs : List Query) (terms : List Term) → map query_value qs ≡ map term terms → list_all (λ q. is_term (query_value q)) qs ≡ true
are_all [] ts e = refl
are_all (q ∷ qs) [] e = absurd (cc)
are_all (q ∷ qs) (t ∷ ts) e =
    let first : query_value q ≡ term t = cc in
    let rest : map query_value qs ≡ map term ts = cc in
    ap₂ (λ a b. a && b) (ap is_term first) (are_all qs ts rest)

as_many : (qs : List Query) (terms : List Term) → map query_value qs ≡ map term terms → length qs ≡ length terms
as_many qs terms e = omega (arith, ap length e, length-map qs query_value, length-map terms term)

-- the documents that they find are those with the terms
lists_are : (segment : SegmentValue) (qs : List Query) (terms : List Term) → map query_value qs ≡ map term terms →
    map (hits_of segment) qs ≡ map (postings segment) terms
lists_are segment [] [] e = refl
lists_are segment [] (t ∷ ts) e = absurd (cc)
lists_are segment (q ∷ qs) [] e = absurd (cc)
lists_are segment (q ∷ qs) (t ∷ ts) e =
    let first : query_value q ≡ term t = cc in
    let rest : map query_value qs ≡ map term ts = cc in
    ap₂ (λ x xs. x ∷ xs) (ap (segment_hits segment) first) (lists_are segment qs ts rest)

-- a Boolean query without must-nots
abbrev pub kept_value : List Query → List Query → QueryValue
kept_value must should = boolean (query_list (map query_value must)) no_queries (query_list (map query_value should))

-- what musts are allowed, terms or not
most_kept : (segment : SegmentValue) (must : List Query) (n : ℕ) (all : Bool) → are_terms (query_list (map query_value must)) ≡ all →
    n ≤ (if all then most_at (bound_of_all (hits_each segment (query_list (map query_value must)))) None else most_for_all segment
    (query_list (map query_value must))) →
    n ≤ (if are_terms (query_list (map query_value must)) then most_at (bound_of_all (hits_each segment (query_list (map query_value must)))) None else
    most_for_all segment (query_list (map query_value must))) + 0
most_kept segment must n all is less =
    let qs = query_list (map query_value must) in
    let most : Bool → ℕ = λ b. if b then most_at (bound_of_all (hits_each segment qs)) None else most_for_all segment qs in
    omega (arith, less, ap most is)

-- one of shoulds alone
pub opens_shoulds : (segment : SegmentValue) (must should : List Query) (s : TreeValue) → must ≡ [] →
    ((q : Query) → should ≡ q ∷ [] → Opens segment (query_value q) s.standing) → (should ≡ [] → s.bound ≡ at_most 0) →
    most_at s.bound None ≤ most_for_all segment (query_list (map query_value should)) → Opens segment (kept_value must should) s.standing
opens_shoulds segment (m ∷ ms) should s empty alone none most = absurd (cc)
opens_shoulds segment [] [] s empty alone none most = record {
  most = omega (arith, most);
  least = omega arith;
  one_term = λ u h. elim h [ inl e ↦ absurd (cc) | inr e ↦ absurd (cc) ];
  list = λ u h. elim h [ inl e ↦ absurd (cc) | inr e ↦ absurd (cc) ];
  musts = λ terms e doc. subst (λ (b : Bound). most_at b doc ≤ most_at (bound_for_musts segment terms) doc) (sym (none refl)) (omega arith);
  opened = λ terms e some. omega (arith, as_many [] terms (terms_are [] terms (cc)));
}
opens_shoulds segment [] (q ∷ []) s empty alone none most = record {
  most = omega (arith, most);
  least = omega arith;
  one_term = λ u h. elim h [
    | inl e ↦ absurd (cc)
    | inr e ↦
        let first : query_value q ≡ term u = cc in
        (alone q refl).one_term u (inl first)
  ];
  list = λ u h. elim h [
    | inl e ↦ absurd (cc)
    | inr e ↦
        let first : query_value q ≡ term u = cc in
        (alone q refl).list u (inl first)
  ];
  musts = λ terms e doc. absurd (cc);
  opened = λ terms e some. absurd (cc);
}
opens_shoulds segment [] (q ∷ (w ∷ qs)) s empty alone none most = record {
  most = omega (arith, most);
  least = omega arith;
  one_term = λ u h. elim h [ inl e ↦ absurd (cc) | inr e ↦ absurd (cc) ];
  list = λ u h. elim h [ inl e ↦ absurd (cc) | inr e ↦ absurd (cc) ];
  musts = λ terms e doc. absurd (cc);
  opened = λ terms e some. absurd (cc);
}

-- one with musts, of which some are no terms
pub opens_mixed : (segment : SegmentValue) (must should : List Query) (s : Standing) → list_all (λ q. is_term (query_value q)) must ≡ false →
    most_at s.bound None ≤ most_for_all segment (query_list (map query_value must)) → Opens segment (kept_value must should) s
opens_mixed segment [] should s mixed most = absurd (false≢true (sym mixed))
opens_mixed segment (q ∷ qs) should s mixed most = record {
  most = most_kept segment (q ∷ qs) (most_at s.bound None) false (are_all_terms (q ∷ qs) ∙ mixed) most;
  least = omega arith;
  one_term = λ u h. elim h [ inl e ↦ absurd (cc) | inr e ↦ absurd (cc) ];
  list = λ u h. elim h [ inl e ↦ absurd (cc) | inr e ↦ absurd (cc) ];
  musts = λ terms e doc. absurd (false≢true (sym mixed ∙ are_all (q ∷ qs) terms (terms_are (q ∷ qs) terms (cc))));
  opened = λ terms e some. absurd (false≢true (sym mixed ∙ are_all (q ∷ qs) terms (terms_are (q ∷ qs) terms (cc))));
}

-- one whose musts are terms
pub opens_terms : (segment : SegmentValue) (must should : List Query) (s : Standing) → 0 < length must → list_all (λ q. is_term (query_value q)) must ≡ true →
    ((doc : Option ℕ) → most_at s.bound doc ≤ most_at (bound_of_all (map (hits_of segment) must)) doc) → (s.remaining ≢ [] → length must ≤ s.openings) →
    Opens segment (kept_value must should) s
opens_terms segment [] should s some terms_all most opened = absurd (omega (arith, some))
opens_terms segment (q ∷ qs) should s some terms_all most opened = record {
  most = most_kept segment (q ∷ qs) (most_at s.bound None) true (are_all_terms (q ∷ qs) ∙ terms_all)
      (subst (λ lists. most_at s.bound None ≤ most_at (bound_of_all lists) None) (sym (hits_are_each segment (q ∷ qs))) (most None));
  least = omega arith;
  one_term = λ u h. elim h [ inl e ↦ absurd (cc) | inr e ↦ absurd (cc) ];
  list = λ u h. elim h [ inl e ↦ absurd (cc) | inr e ↦ absurd (cc) ];
  musts = λ terms e doc. subst (λ lists. most_at s.bound doc ≤ most_at (bound_of_all lists) doc)
      (lists_are segment (q ∷ qs) terms (terms_are (q ∷ qs) terms (cc))) (most doc);
  opened = λ terms e more. omega (arith, as_many (q ∷ qs) terms (terms_are (q ∷ qs) terms (cc)), opened more);
}

-- a cursor that walked on
pub opens_walked : (segment : SegmentValue) (query : QueryValue) (p : ℕ → Bool) (s t : Standing) → Opens segment query s → Walked s t →
    t.remaining ≡ filter p s.remaining → Opens segment query t
opens_walked segment query p s t h walked is = record {
  most = subst (λ (b : Bound). most_at b None ≤ most_for segment query) (sym walked.continues.bound) h.most;
  least = omega (arith, h.least, walked.continues.more);
  one_term = λ u e. let o = h.one_term u e in (walked.whole o.0, ap (λ b. most_at b None) walked.continues.bound ∙ o.1);
  list = λ u e. walked.continues.list ∙ h.list u e;
  musts = λ terms e doc. subst (λ (b : Bound). most_at b doc ≤ most_at (bound_for_musts segment terms) doc) (sym walked.continues.bound) (h.musts terms e doc);
  opened = λ terms e some. omega (arith, h.opened terms e (λ none. some (is ∙ ap (filter p) none)), walked.continues.more);
}

-- what a Boolean query keeps before its must-nots are asked for, and what its cursor opens
pub record Keeps (segment : SegmentValue) (must should : List Query) (s : TreeValue) : Type 0 where
  pub hits : s.remaining ≡ numbers_where (kept_by segment.schema must should) 0 segment.documents
  pub opens : Opens segment (kept_value must should) s.standing

pub keeps_shoulds : (segment : SegmentValue) (must should : List Query) (s : TreeValue) → must ≡ [] → s.remaining ≡ union (map (hits_of segment) should) →
    ((q : Query) → should ≡ q ∷ [] → Opens segment (query_value q) s.standing) → (should ≡ [] → s.bound ≡ at_most 0) →
    most_at s.bound None ≤ most_for_all segment (query_list (map query_value should)) → Keeps segment must should s
keeps_shoulds segment must should s empty is alone none most = record {
  hits = is ∙ should_hits segment must should empty;
  opens = opens_shoulds segment must should s empty alone none most;
}

pub keeps_terms : (segment : SegmentValue) (must should : List Query) (s : TreeValue) → 0 < length must → list_all (λ q. is_term (query_value q)) must ≡ true →
    s.remaining ≡ all_hits segment must →
    ((doc : Option ℕ) → most_at s.bound doc ≤ most_at (bound_of_all (map (hits_of segment) must)) doc) → (s.remaining ≢ [] → length must ≤ s.openings) →
    Keeps segment must should s
keeps_terms segment must should s some terms_all is most opened = record {
  hits = is ∙ all_kept segment must should some;
  opens = opens_terms segment must should s.standing some terms_all most opened;
}

pub keeps_musts : (segment : SegmentValue) (must should : List Query) (s : TreeValue) → 0 < length must →
    list_all (λ q. is_term (query_value q)) must ≡ false →
    s.remaining ≡ all_hits segment must →
    most_at s.bound None ≤ most_for_all segment (query_list (map query_value must)) → Keeps segment must should s
keeps_musts segment must should s some mixed is most = record {
  hits = is ∙ all_kept segment must should some;
  opens = opens_mixed segment must should s.standing mixed most;
}

-- a Boolean query of the code, with its must-nots or without
module _ (segment : SegmentValue) (query : Query) (must must_not should : List Query) (s : TreeValue)
    (value : query_value query ≡ boolean (query_list (map query_value must)) (query_list (map query_value must_not)) (query_list (map query_value should)))
  where
    pub opens_kept : must_not ≡ [] → Keeps segment must should s → Opens segment (query_value query) s.standing
    opens_kept none h =
        subst (λ v. Opens segment v s.standing)
        (sym (value ∙ ap (λ qs. boolean (query_list (map query_value must)) (query_list (map query_value qs)) (query_list (map query_value should))) none))
        h.opens

    pub opens_filtered : 0 < length must_not → (kept : TreeValue) → Keeps segment must should kept → most_at s.bound None ≡ most_at kept.bound None →
        Opens segment (query_value query) s.standing
    opens_filtered some kept keeps most =
        opens_without segment (query_value query) (query_list (map query_value must)) (query_list (map query_value should)) must_not s.standing value some
        (subst (λ v. most_at s.bound None ≤ most_for segment v) (sym value) (omega (arith, keeps.opens.most, most)))

    pub opens_apart : 0 < length must_not → (kept dropped : TreeValue) → Keeps segment must should kept →
        most_at dropped.bound None ≤ most_for_all segment (query_list (map query_value must_not)) →
        most_at s.bound None ≡ most_at kept.bound None + most_at dropped.bound None →
        Opens segment (query_value query) s.standing
    opens_apart some kept dropped keeps less most =
        opens_without segment (query_value query) (query_list (map query_value must)) (query_list (map query_value should)) must_not s.standing value some
        (subst (λ v. most_at s.bound None ≤ most_for segment v) (sym value) (omega (arith, keeps.opens.most, less, most)))

-- a query of which nothing says that it opens blocks
fewest_free : (segment : SegmentValue) (query : QueryValue) → is_free query ≡ true → least_for segment query ≡ 0
fewest_free segment every free = refl
fewest_free segment nothing free = refl
fewest_free segment (term t) free = refl
fewest_free segment (phrase field pattern) free = refl
fewest_free segment (range field lower upper) free = absurd (false≢true free)
fewest_free segment (boolean must must_not should) free = refl

terms_all : (terms : List Term) → are_terms (query_list (map term terms)) ≡ true
terms_all [] = refl
terms_all (t ∷ ts) = terms_all ts

musts_open : (terms : List Term) → is_free (boolean (query_list (map term terms)) no_queries no_queries) ≡ false
musts_open [] = refl
musts_open (t ∷ ts) = ap not (terms_all ts)

pub opens_free : (segment : SegmentValue) (query : QueryValue) (s : Standing) → is_free query ≡ true → most_at s.bound None ≤ most_for segment query →
    Opens segment query s
opens_free segment query s free most = record {
  most = most;
  least = omega (arith, fewest_free segment query free);
  one_term = λ u h. elim h [ inl e ↦ absurd (false≢true (sym (ap is_free e) ∙ free)) | inr e ↦ absurd (false≢true (sym (ap is_free e) ∙ free)) ];
  list = λ u h. elim h [ inl e ↦ absurd (false≢true (sym (ap is_free e) ∙ free)) | inr e ↦ absurd (false≢true (sym (ap is_free e) ∙ free)) ];
  musts = λ terms e doc. absurd (false≢true (sym (ap is_free e ∙ musts_open terms) ∙ free));
  opened = λ terms e some. absurd (false≢true (sym (ap is_free e ∙ musts_open terms) ∙ free));
}

pub opens_nothing : (segment : SegmentValue) (query : QueryValue) (s : Standing) → s.bound ≡ at_most 0 → most_at s.bound None ≤ most_for segment query
opens_nothing segment query s none = subst (λ (b : Bound). most_at b None ≤ most_for segment query) (sym none) (omega arith)

-- which queries of the code these are
pub free_apart : (must must_not should : List Query) → 0 < length must_not →
    is_free (boolean (query_list (map query_value must)) (query_list (map query_value must_not)) (query_list (map query_value should))) ≡ true
free_apart must [] should some = absurd (omega (arith, some))
free_apart must (q ∷ qs) should some = refl

pub free_musts : (must must_not should : List Query) → length must_not ≡ 0 → 0 < length must →
    is_free (boolean (query_list (map query_value must)) (query_list (map query_value must_not)) (query_list (map query_value should)))
    ≡ not (list_all (λ q. is_term (query_value q)) must)
free_musts [] must_not should none some = absurd (omega (arith, some))
free_musts (q ∷ qs) [] should none some = ap not (are_all_terms (q ∷ qs))
free_musts (q ∷ qs) (p ∷ ps) should none some = absurd (omega (arith, none))

pub free_shoulds : (must must_not should : List Query) → length must_not ≡ 0 → length must ≡ 0 →
    is_free (boolean (query_list (map query_value must)) (query_list (map query_value must_not)) (query_list (map query_value should)))
    ≡ are_mixed (query_list (map query_value should))
free_shoulds [] [] should none empty = refl
free_shoulds (q ∷ qs) must_not should none empty = absurd (omega (arith, empty))
free_shoulds [] (p ∷ ps) should none empty = absurd (omega (arith, none))

pub mixed_one : (qs : List Query) → length qs < 2 → false ≡ are_mixed (query_list (map query_value qs))
mixed_one [] few = refl
mixed_one (q ∷ []) few = refl
mixed_one (q ∷ (w ∷ qs)) few = absurd (omega (arith, few))

pub mixed_some : (qs : List Query) → 2 ≤ length qs →
    not (list_all (λ q. is_term (query_value q)) qs) ≡ are_mixed (query_list (map query_value qs))
mixed_some [] some = absurd (omega (arith, some))
mixed_some (q ∷ []) some = absurd (omega (arith, some))
mixed_some (q ∷ (w ∷ qs)) some = ap not (sym (are_all_terms (q ∷ (w ∷ qs))))

-- the queries in a Boolean query fit where it does
pub parts_fit : (schema : List Field) (query : Query) (must must_not should : _) → query ≡ views.Bool must must_not should → fits_in schema query ≡ true →
    (list_all (fits_in schema) must.items ≡ true) × (list_all (fits_in schema) must_not.items ≡ true) × (list_all (fits_in schema) should.items ≡ true)
parts_fit schema query must must_not should is fits =
    let all = list_all (fits_in schema) in
    let whole : (all must.items && all must_not.items && all should.items) ≡ true =
    sym (ap (fits_in schema) is ∙ query_fits_at_bool schema must must_not should) ∙ fits in
    let parts = and_parts (all must.items && all must_not.items) (all should.items) whole in
    let first = and_parts (all must.items) (all must_not.items) parts.0 in
    (first.0, first.1, parts.1)

-- nothing is found for no query
value_of_none : query_value variants.None ≡ nothing
value_of_none = ap query_value (sym variants.rolls-None) ∙ fold-roll-Query QueryValue value_by_parts Query-F.None

pub nothing_found : (segment : SegmentValue) (query : Query) → query ≡ variants.None → [] ≡ hits_of segment query
nothing_found segment query is =
    sym (numbers_where-none (λ e. matches segment.schema e.value nothing) 0 segment.documents (λ k d inside. refl))
    ∙ ap (segment_hits segment) (sym (ap query_value is ∙ value_of_none))
