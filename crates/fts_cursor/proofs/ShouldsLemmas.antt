-- Queries of which one must match: what bits tell and what cursors have together.
use Rattle.std.proofs.Common.{◌≡◌, ◌||◌, ℕ, ◌+◌, ◌^◌, ◌<◌, ◌≤◌, Bool, true, false, None, List, [], ◌∷◌, ◌++◌, length, map, take, get_or, refl, sym, ap, ap₂, subst}
use Rattle.std.proofs.Common.{◌∙◌, arith}
use Rattle.std.specs.Borrow.{Bor}
use Rattle.std.proofs.Math.Bool.{or_assoc}
use Rattle.std.proofs.lemmas.List.{map-append, take_more}
use Rattle.std.proofs.lemmas.List.Elements.{All-append, All-cons, All-nil}
use Rattle.std.proofs.lemmas.List.Folds.{list_any-append}
use Rattle.fts_model.specs.declared.query.Query.{Query}
use Rattle.fts_model.specs.QueryValues.{query_list, query_value}
use Rattle.fts_pack.specs.Documents.{Rises}
use Rattle.fts_postings.specs.Bounds.{most_at}
use Rattle.fts_postings.specs.Sets.{has, in_some, union}
use Rattle.fts_postings.proofs.UnionLemmas.{Rises-union, has-union, in_some-append}
use Rattle.fts_segment.specs.Segments.{SegmentValue}
use Rattle.fts_sets.specs.Leaves.{in_one}
use Rattle.fts_cursor.specs.Hits.{is_live}
use Rattle.fts_cursor.specs.Most.{most_for, most_for_all}
use Rattle.fts_cursor.specs.Shoulds.{AreShoulds}
use Rattle.fts_cursor.specs.TreeValues.{TreeValue, all_most, remains}
use Rattle.fts_cursor.proofs.HitsLemmas.{hits_of}
use Rattle.fts_sets.proofs.SetLemmas.{same_members}

-- one query more
hits_with : (segment : SegmentValue) (qs : List Query) (q : Query) (d : ℕ) →
    in_some (map (hits_of segment) (qs ++ q ∷ [])) d ≡ (in_some (map (hits_of segment) qs) d || has (hits_of segment q) d)
hits_with segment qs q d =
    ap (λ lists. in_some lists d) (map-append (hits_of segment) qs (q ∷ [])) ∙ in_some-append (map (hits_of segment) qs) (hits_of segment q) d

pub most_with : (segment : SegmentValue) (qs : List Query) (q : Query) → most_for_all segment (query_list (map query_value (qs ++ q ∷ [])))
    ≡ most_for_all segment (query_list (map query_value qs)) + most_for segment (query_value q)
most_with segment [] q = omega arith
most_with segment (p ∷ ps) q = omega (arith, most_with segment ps q)

pub most_push : (parts : List TreeValue) (t : TreeValue) → all_most (parts ++ t ∷ []) ≡ all_most parts + most_at t.bound None
most_push [] t = omega arith
most_push (p ∷ ps) t = omega (arith, most_push ps t)

pub remains_push : (parts : List TreeValue) (t : TreeValue) (d : ℕ) →
    in_some (remains (parts ++ t ∷ [])) d ≡ (in_some (remains parts) d || has t.remaining d)
remains_push parts t d =
    ap (λ lists. in_some lists d) (map-append (λ (s : TreeValue). s.remaining) parts (t ∷ [])) ∙ in_some-append (remains parts) t.remaining d

or_between : (b s l : Bool) → ((b || s) || l) ≡ ((b || (l || false)) || s)
or_between true s l = refl
or_between false true true = refl
or_between false true false = refl
or_between false false true = refl
or_between false false false = refl

pub or_other : (a b : Bool) → (a || b) ≡ (b || a)
or_other true true = refl
or_other true false = refl
or_other false true = refl
or_other false false = refl

module _ (segment : SegmentValue) (qs : List Query) (bits : List (Bor (List Bool))) (parts : List TreeValue) (h : AreShoulds segment qs bits parts) (q : Query)
  where
    pub AreShoulds-told : (b : Bor (List Bool)) → ((d : ℕ) → is_live b.now d ≡ has (hits_of segment q) d) → length b.now ≤ 2 ^ 32 →
        AreShoulds segment (qs ++ q ∷ []) (bits ++ b ∷ []) parts
    AreShoulds-told b tells few = record {
      same = λ d.
          hits_with segment qs q d ∙ ap₂ (λ x y. x || y) (h.same d) (sym (tells d))
          ∙ or_between (in_one bits d) (in_some (remains parts) d) (is_live b.now d)
          ∙ ap (λ x. x || in_some (remains parts) d) (sym (list_any-append (λ (c : Bor (List Bool)). is_live c.now d) bits (b ∷ [])));
      few = All-append (λ (c : Bor (List Bool)). length c.now ≤ 2 ^ 32) bits (b ∷ []) h.few (All-cons (λ (c : Bor (List Bool)). length c.now ≤ 2 ^ 32) b [] few
          (All-nil (λ (c : Bor (List Bool)). length c.now ≤ 2 ^ 32)));
      most = omega (arith, h.most, most_with segment qs q);
    }

    pub AreShoulds-part : (t : TreeValue) → t.remaining ≡ hits_of segment q → most_at t.bound None ≤ most_for segment (query_value q) →
        AreShoulds segment (qs ++ q ∷ []) bits (parts ++ t ∷ [])
    AreShoulds-part t is few = record {
      same = λ d.
          hits_with segment qs q d ∙ ap₂ (λ x xs. x || has xs d) (h.same d) (sym is)
          ∙ or_assoc (in_one bits d) (in_some (remains parts) d) (has t.remaining d)
          ∙ ap (λ x. in_one bits d || x) (sym (remains_push parts t d));
      few = h.few;
      most = omega (arith, h.most, most_with segment qs q, most_push parts t, few);
    }

-- the next of some queries
pub AreShoulds-next : (segment : SegmentValue) (queries : List Query) (i : ℕ) (q : Query) (bits : List (Bor (List Bool))) (parts : List TreeValue) →
    i < length queries → q ≡ get_or queries i q → AreShoulds segment (take i queries ++ q ∷ []) bits parts → AreShoulds segment (take (i + 1) queries) bits parts
AreShoulds-next segment queries i q bits parts inside is h =
    subst (λ qs. AreShoulds segment qs bits parts) (ap (λ p. take i queries ++ p ∷ []) is ∙ sym (take_more queries i q inside)) h

-- together they have what the queries find
pub shoulds_found : (segment : SegmentValue) (qs : List Query) (bits : List (Bor (List Bool))) (parts : List TreeValue) (xs : List ℕ) →
    AreShoulds segment qs bits parts → ((d : ℕ) → has xs d ≡ (in_one bits d || in_some (remains parts) d)) → Rises 0 xs → xs ≡ union (map (hits_of segment) qs)
shoulds_found segment qs bits parts xs h is rises =
    let lists = map (hits_of segment) qs in
    same_members 0 xs (union lists) rises (Rises-union lists) (λ d. is d ∙ sym (h.same d) ∙ sym (has-union lists d))
