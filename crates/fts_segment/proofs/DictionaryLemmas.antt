-- The dictionary of a log.
use Rattle.std.proofs.Common.{◌≡◌, ◌+◌, ◌<◌, ◌==◌, ℕ, suc, zero, Bool, true, false, cond, List, [], ◌∷◌, ◌++◌, Some, map, filter, flat_map, drop, nat_eq, length, get_or}
use Rattle.std.proofs.Common.{refl, sym, ap, ap₂, subst, ◌∙◌, inl, inr, arith, All, Contains, bytes_eq, nat_lt, Less}
use Rattle.std.specs.Prelude.{slice_get}
use Rattle.std.specs.Ordering.{nat_cmp}
use Rattle.std.specs.Cmp.Lexicographic.{slice_cmp}
use Rattle.std.specs.List.{dedup}
use Rattle.std.specs.List.Sorted.{IsStrictlyIncreasing}
use Rattle.std.proofs.lemmas.Bool.{cases_eq, cases_Bool, lt-ltb}
use Rattle.std.proofs.lemmas.Bool.Decides.{nat_tests}
use Rattle.std.proofs.lemmas.Slice.Eq.{bytes_eq-Decides}
use Rattle.std.proofs.lemmas.Option.{slice_get-get_or, get_or_from_slice_get, slice_get_within}
use Rattle.std.proofs.lemmas.List.{get_or_default, get_or-map, length-map, same_lists, drop_more, append_assoc, append-nil, map-append}
use Rattle.std.proofs.lemmas.List.Elements.{All-tail, All-map, filter_passes}
use Rattle.std.proofs.lemmas.List.Kept.{AllPairs-filter}
use Rattle.std.proofs.lemmas.Grind.{flat_map-append}
use Rattle.std.proofs.lemmas.Simd.{map-map}
use Rattle.fts_segment.specs.declared.term_log.Occurrence.{Occurrence}
use Rattle.fts_segment.specs.declared.term_groups.DocPosition.{DocPosition}
use Rattle.fts_segment.specs.Occurrences.{OccurrenceValue}
use Rattle.fts_segment.specs.TermLogs.{occurrence_value, occurrence_values, AreNamed, by_ordinal}
use Rattle.fts_segment.specs.TermGroups.{is_of, place, places_of}
use Rattle.fts_segment.specs.Occurrences.{is_term, docs_of, docs_with}
use Rattle.fts_segment.specs.Positions.{place_of, places_with, position_lists_of, position_lists_with}
use Rattle.fts_positions.specs.PositionLists.{IsPositionList}
use Rattle.fts_segment.specs.Sorted.{Ascends}
use Rattle.fts_segment.specs.Dictionaries.{occurs, docs_in, IsDictionaryOf, unless_none, names_listed, listed_by}
use Rattle.fts_segment.proofs.TermsLemmas.{one_place}
use Rattle.fts_segment.proofs.TermLogsLemmas.{Stand, occurrence_values-by_ordinal, AreNamed-by_ordinal}
use Rattle.fts_segment.proofs.HoldingLemmas.{docs_of-cons}

same_test : (names : List (List ℕ)) → Ascends names → (id term : ℕ) (q : List ℕ) → slice_get names id ≡ Some q → term < length names →
    (term == id) ≡ bytes_eq (get_or names term []) q
same_test names up id term q found within = elim (cases_eq term id) [
  | inl same ↦
      (let is : (term == id) ≡ true = grind (arith, nat_tests) in is)
      ∙ sym ((bytes_eq-Decides (get_or names term []) q).1 (ap (λ n. get_or names n []) same ∙ get_or_from_slice_get names id q [] found))
  | inr other ↦
      (let is : (term == id) ≡ false = grind (arith, nat_tests) in is)
      ∙ elim (cases_Bool (bytes_eq (get_or names term []) q)) [
        | inl e ↦ absurd (other
            (one_place names up term id q (slice_get-get_or names term [] within ∙ ap Some ((bytes_eq-Decides (get_or names term []) q).0 e)) found))
        | inr e ↦ sym e
      ]
]

group_cons : (names : List (List ℕ)) (id : ℕ) (q : List ℕ) (e : Occurrence) (es : List Occurrence) (b : Bool) → is_of id e ≡ b →
    is_term q (occurrence_value names e) ≡ b →
    places_of id es ≡ places_with q (occurrence_values names es) → places_of id (e ∷ es) ≡ places_with q (occurrence_values names (e ∷ es))
group_cons names id q e es true here there others =
    ap (λ b. map place (cond b (e ∷ filter (is_of id) es) (filter (is_of id) es))) here ∙ ap (λ (ps : List DocPosition). place e ∷ ps) others
    ∙ sym (ap (λ b. map place_of (cond b (occurrence_value names e ∷ filter (is_term q) (occurrence_values names es))
    (filter (is_term q) (occurrence_values names es)))) there)
group_cons names id q e es false here there others =
    ap (λ b. map place (cond b (e ∷ filter (is_of id) es) (filter (is_of id) es))) here ∙ others
    ∙ sym (ap (λ b. map place_of (cond b (occurrence_value names e ∷ filter (is_term q) (occurrence_values names es))
    (filter (is_term q) (occurrence_values names es)))) there)

-- a term's group is its places
group_places : (names : List (List ℕ)) → Ascends names → (id : ℕ) (q : List ℕ) → slice_get names id ≡ Some q → (es : List Occurrence) → AreNamed names es →
    places_of id es ≡ places_with q (occurrence_values names es)
group_places names up id q found [] named = refl
group_places names up id q found (e ∷ es) named =
    group_cons names id q e es (is_of id e) refl (sym (same_test names up id e.term q found (named 0 e (omega arith))))
    (group_places names up id q found es (All-tail (λ (x : Occurrence). x.term < length names) e es named))

-- the groups have the places of their names
pub groups_are : (names : List (List ℕ)) (log : List Occurrence) (groups : List (List DocPosition)) → Ascends names → AreNamed names log →
    length groups ≡ length names →
    ((t : ℕ) → t < length names → get_or groups t [] ≡ places_of t log) → groups ≡ map (λ q. places_with q (occurrence_values names log)) names
groups_are names log groups up named count grouped =
    let places : List ℕ → List DocPosition = λ q. places_with q (occurrence_values names log) in
    same_lists groups (map places names) (count ∙ sym (length-map names places)) (λ k d within.
    let inside : k < length names = omega (arith, count, within) in
    get_or_default groups k d [] within ∙ grouped k inside ∙ group_places names up k (get_or names k []) (slice_get-get_or names k [] inside) log named
    ∙ sym (get_or-map places names k [] d inside))

-- a term that occurs has an id
named_where : (names : List (List ℕ)) (q : List ℕ) (es : List Occurrence) → AreNamed names es → occurs (occurrence_values names es) q ≡ true →
    (id : ℕ) × (slice_get names id ≡ Some q)
named_where names q [] named is = absurd (let clash : false ≡ true = is in cc)
named_where names q (e ∷ es) named is = elim (cases_Bool (is_term q (occurrence_value names e))) [
  | inl is_one ↦ (e.term, slice_get-get_or names e.term [] (named 0 e (omega arith)) ∙ ap Some ((bytes_eq-Decides (get_or names e.term []) q).0 is_one))
  | inr is_other ↦ named_where names q es (All-tail (λ (x : Occurrence). x.term < length names) e es named)
      (ap (λ ns. nat_lt 0 (length ns)) (sym (docs_of-cons q (occurrence_value names e) (occurrence_values names es) false is_other)) ∙ is)
]

-- ascending names ascend after some are left out
Ascends-filter : (p : List ℕ → Bool) (names : List (List ℕ)) → Ascends names → Ascends (filter p names)
Ascends-filter p names up i j lower within =
    AllPairs-filter (λ a b. slice_cmp nat_cmp a b ≡ Less) p names
    (λ i j d lower within. rw (get_or_default names i d [] (omega arith), get_or_default names j d [] within) (up i j lower within)) i j [] lower within

-- the next name is listed
pub names_step : (groups : List (List DocPosition)) (all : List (List ℕ)) (i : ℕ) (places : List DocPosition) (name : List ℕ) (names after : List (List ℕ)) →
    i < length all → length groups ≡ length all →
    name ≡ get_or all i [] → places ≡ get_or groups i [] → after ≡ names ++ unless_none places name → names ++ names_listed (drop i groups) (drop i all)
    ≡ names_listed groups all →
    after ++ names_listed (drop (i + 1) groups) (drop (i + 1) all) ≡ names_listed groups all
names_step groups all i places name names after within count here there put so_far =
    let first : drop i groups ≡ places ∷ drop (i + 1) groups = drop_more groups i [] (omega (arith, count, within))
    ∙ ap (λ (ps : List DocPosition). ps ∷ drop (i + 1) groups) (sym there) in
    let second : drop i all ≡ name ∷ drop (i + 1) all = drop_more all i [] within ∙ ap (λ (n : List ℕ). n ∷ drop (i + 1) all) (sym here) in
    ap (λ ns. ns ++ names_listed (drop (i + 1) groups) (drop (i + 1) all)) put
    ∙ append_assoc names (unless_none places name) (names_listed (drop (i + 1) groups) (drop (i + 1) all))
    ∙ ap (λ ns. names ++ ns) (sym (ap₂ names_listed first second)) ∙ so_far

pub listed_step : {X : Type 0} (f : List DocPosition → X) (groups : List (List DocPosition)) (i : ℕ) (places : List DocPosition) (lists after : List X) → i < length groups →
    places ≡ get_or groups i [] →
    after ≡ lists ++ unless_none places (f places) → lists ++ listed_by f (drop i groups) ≡ listed_by f groups →
    after ++ listed_by f (drop (i + 1) groups) ≡ listed_by f groups
listed_step f groups i places lists after within there put so_far =
    let first : drop i groups ≡ places ∷ drop (i + 1) groups = drop_more groups i [] within ∙ ap (λ (ps : List DocPosition). ps ∷ drop (i + 1) groups) (sym there) in
    ap (λ ls. ls ++ listed_by f (drop (i + 1) groups)) put ∙ append_assoc lists (unless_none places (f places)) (listed_by f (drop (i + 1) groups))
    ∙ ap (λ ls. lists ++ ls) (sym (ap (listed_by f) first)) ∙ so_far

-- the lists of one more group are appended
pub flat_step : {X Y : Type 0} (f : X → List Y) (groups : List X) (i : ℕ) (d x : X) (lists after : List Y) → i < length groups → x ≡ get_or groups i d →
    after ≡ lists ++ f x → lists ++ flat_map f (drop i groups) ≡ flat_map f groups → after ++ flat_map f (drop (i + 1) groups) ≡ flat_map f groups
flat_step f groups i d x lists after within there put so_far =
    let rest = drop (i + 1) groups in
    ap (λ ls. ls ++ flat_map f rest) put ∙ append_assoc lists (f x) (flat_map f rest)
    ∙ ap (λ xs. lists ++ flat_map f xs) (sym (drop_more groups i d within ∙ ap (λ y. y ∷ rest) (sym there))) ∙ so_far

pub docs_with_places : (q : List ℕ) (os : List OccurrenceValue) → map (λ (p : DocPosition). p.doc) (places_with q os) ≡ docs_of q os
docs_with_places q os = map-map (λ (p : DocPosition). p.doc) place_of (filter (is_term q) os)

-- a term has a place exactly if it occurs
occurs_where : (os : List OccurrenceValue) (q : List ℕ) (places : List DocPosition) → map (λ (p : DocPosition). p.doc) places ≡ docs_of q os →
    occurs os q ≡ nat_lt 0 (length places)
occurs_where os q [] same = ap (λ ns. nat_lt 0 (length ns)) (sym same)
occurs_where os q (p ∷ ps) same = ap (λ ns. nat_lt 0 (length ns)) (sym same) ∙ lt-ltb 0 (suc (length (map (λ (p : DocPosition). p.doc) ps))) (omega arith)
    ∙ sym (lt-ltb 0 (suc (length ps)) (omega arith))

unless_none_is : {X : Type 0} (places : List DocPosition) (x : X) → unless_none places x ≡ cond (nat_lt 0 (length places)) (x ∷ []) []
unless_none_is [] x = refl
unless_none_is (p ∷ ps) x = ap (λ b. cond b (x ∷ []) []) (sym (lt-ltb 0 (suc (length ps)) (omega arith)))

cond_before : {X : Type 0} (b : Bool) (x : X) (xs : List X) → cond b (x ∷ []) [] ++ xs ≡ cond b (x ∷ xs) xs
cond_before true x xs = refl
cond_before false x xs = refl

-- the listed names are the terms that occur
names_listed-is : (os : List OccurrenceValue) (names : List (List ℕ)) → names_listed (map (λ q. places_with q os) names) names ≡ filter (occurs os) names
names_listed-is os [] = refl
names_listed-is os (q ∷ names) =
    let rest = filter (occurs os) names in
    ap (λ ns. unless_none (places_with q os) q ++ ns) (names_listed-is os names) ∙ ap (λ ns. ns ++ rest) (unless_none_is (places_with q os) q)
    ∙ ap (λ b. cond b (q ∷ []) [] ++ rest) (sym (occurs_where os q (places_with q os) (docs_with_places q os))) ∙ cond_before (occurs os q) q rest

unless_none_map : {X : Type 0} (f : List DocPosition → X) (g : List ℕ → X) (places : List DocPosition) (q : List ℕ) → f places ≡ g q →
    unless_none places (f places) ≡ map g (unless_none places q)
unless_none_map f g [] q same = refl
unless_none_map f g (p ∷ ps) q same = ap (λ x. x ∷ []) same

-- the list for the names is their images
listed_by-is : {X : Type 0} (f : List DocPosition → X) (g : List ℕ → X) (os : List OccurrenceValue) (names : List (List ℕ)) →
    ((q : List ℕ) → f (places_with q os) ≡ g q) →
    listed_by f (map (λ q. places_with q os) names) ≡ map g (names_listed (map (λ q. places_with q os) names) names)
listed_by-is f g os [] same = refl
listed_by-is f g os (q ∷ names) same =
    let groups = map (λ q. places_with q os) names in
    ap₂ (λ xs ys. xs ++ ys) (unless_none_map f g (places_with q os) q (same q)) (listed_by-is f g os names same)
    ∙ sym (map-append g (unless_none (places_with q os) q) (names_listed groups names))

flat_one : (f : List ℕ → List (List ℕ)) (places : List DocPosition) (q : List ℕ) → position_lists_of places ≡ f q →
    position_lists_of places ≡ flat_map f (unless_none places q)
flat_one f [] q same = refl
flat_one f (p ∷ ps) q same = same ∙ sym (append-nil (f q))

-- the lists of positions of the groups are those of the names
flat_listed : (os : List OccurrenceValue) (names : List (List ℕ)) → let groups = map (λ q. places_with q os) names in
    flat_map position_lists_of groups ≡ flat_map (λ q. position_lists_with q os) (names_listed groups names)
flat_listed os [] = refl
flat_listed os (q ∷ names) =
    let f : List ℕ → List (List ℕ) = λ q. position_lists_with q os in
    ap₂ (λ xs ys. xs ++ ys) (flat_one f (places_with q os) q refl) (flat_listed os names)
    ∙ sym (flat_map-append f (unless_none (places_with q os) q) (names_listed (map (λ q. places_with q os) names) names))

contains_at : {X : Type 0} (p : X → Bool) (xs : List X) (k : ℕ) (x : X) → k < length xs → get_or xs k x ≡ x → p x ≡ true → Contains (filter p xs) x
contains_at p [] k x within here passes = absurd (omega arith)
contains_at p (y ∷ ys) zero x within here passes =
    let P : List _ → Type 0 = λ zs. Contains zs x in
    subst P (sym (ap (λ b. cond b (y ∷ filter p ys) (filter p ys)) (ap p here ∙ passes))) (zero, omega arith, here)
contains_at p (y ∷ ys) (suc k) x within here passes =
    let rest = contains_at p ys k x (omega arith) here passes in
    elim (p y) as (λ b. Contains (cond b (y ∷ filter p ys) (filter p ys)) x) [ true ↦ (suc rest.0, omega (arith, rest.1), rest.2) | false ↦ rest ]

-- the documents of a term's places, without duplicates, are those of its occurrences
docs_right : (q : List ℕ) (os : List OccurrenceValue) → docs_in (places_with q os) ≡ docs_with q os
docs_right q os = ap (dedup nat_eq) (docs_with_places q os)

-- the names with the groups of their places make the dictionary of the occurrences
pub IsDictionaryOf-listed : (names : List (List ℕ)) (log : List Occurrence) → Ascends names → AreNamed names log →
    let os = occurrence_values names log in
    let groups = map (λ q. places_with q os) names in
    IsDictionaryOf os (names_listed groups names) (listed_by docs_in groups) (flat_map position_lists_of groups)
IsDictionaryOf-listed names log up named =
    let os = occurrence_values names log in
    let is = names_listed-is os names in
    let P : List (List ℕ) → Type 0 = λ ns. Ascends ns in
    let Q : List (List ℕ) → Type 0 = λ ns. All (λ q. occurs os q ≡ true) ns in
    record {
      ascends = subst P (sym is) (Ascends-filter (occurs os) names up);
      listed = listed_by-is docs_in (λ q. docs_with q os) os names (λ q. docs_right q os);
      positioned = flat_listed os names;
      occur = subst Q (sym is) (filter_passes (occurs os) names);
      whole = λ q occurring.
          let number = named_where names q log named occurring in
          let R : List (List ℕ) → Type 0 = λ ns. Contains ns q in
          subst R (sym is) (contains_at (occurs os) names number.0 q (slice_get_within names number.0 q number.1)
          (get_or_from_slice_get names number.0 q q number.1) occurring);
    }

-- the names with the groups of their places, after terms got new ids by their order
pub record IsGrouped (names sorted : List (List ℕ)) (log : List Occurrence) (groups : List (List DocPosition)) : Type 0 where
  pub groups_are : groups ≡ map (λ q. places_with q (occurrence_values names log)) sorted
  pub dictionary_is : IsDictionaryOf (occurrence_values names log) (names_listed groups sorted) (listed_by docs_in groups) (flat_map position_lists_of groups)

pub IsGrouped-sorted : (names sorted : List (List ℕ)) (ordinals : List ℕ) (log after : List Occurrence) (groups : List (List DocPosition)) (count : ℕ) →
    Ascends sorted → Stand names sorted ordinals → AreNamed names log →
    after ≡ map (by_ordinal ordinals) log → count ≡ length sorted → length groups ≡ count → ((t : ℕ) → t < count → get_or groups t [] ≡ places_of t after) →
    IsGrouped names sorted log groups
IsGrouped-sorted names sorted ordinals log after groups count up stand named is long many grouped =
    let Named : List Occurrence → Type 0 = AreNamed sorted in
    let again : Named after = subst Named (sym is) (AreNamed-by_ordinal names sorted ordinals log stand named) in
    let same : occurrence_values sorted after ≡ occurrence_values names log =
    ap (occurrence_values sorted) is ∙ occurrence_values-by_ordinal names sorted ordinals log stand named in
    let places : List OccurrenceValue → List (List DocPosition) = λ os. map (λ q. places_with q os) sorted in
    let are : groups ≡ places (occurrence_values names log) =
    groups_are sorted after groups up again (many ∙ long) (λ t within. grouped t (omega (arith, within, long))) ∙ ap places same in
    let Is : List OccurrenceValue → List (List DocPosition) → Type 0 =
    λ os gs. IsDictionaryOf os (names_listed gs sorted) (listed_by docs_in gs) (flat_map position_lists_of gs) in
    record {
      groups_are = are;
      dictionary_is = subst (Is (occurrence_values names log)) (sym are) (subst (λ os. Is os (places os)) same (IsDictionaryOf-listed sorted after up again));
    }

-- the documents of each group rise
pub lists_rise : (names : List (List ℕ)) (os : List OccurrenceValue) → ((q : List ℕ) → IsStrictlyIncreasing (docs_with q os)) →
    All (λ places. IsStrictlyIncreasing (docs_in places)) (map (λ q. places_with q os) names)
lists_rise names os up =
    All-map (λ places. IsStrictlyIncreasing (docs_in places)) (λ q. places_with q os) names (λ k d within.
    let P : List ℕ → Type 0 = λ ns. IsStrictlyIncreasing ns in subst P (sym (docs_right (get_or names k d) os)) (up (get_or names k d)))

-- the positions of each group are position lists
pub groups_have_position_lists : (names : List (List ℕ)) (os : List OccurrenceValue) → ((q : List ℕ) → All IsPositionList (position_lists_with q os)) →
    All (λ places. All IsPositionList (position_lists_of places)) (map (λ q. places_with q os) names)
groups_have_position_lists names os lists =
    All-map (λ places. All IsPositionList (position_lists_of places)) (λ q. places_with q os) names (λ k d within. lists (get_or names k d))
