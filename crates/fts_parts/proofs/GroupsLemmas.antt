-- The groups of parts, put together.
use Rattle.std.proofs.Common.{◌≡◌, ℕ, ◌+◌, ◌^◌, ◌<◌, ◌≤◌, Bool, true, false, cond, ◌⊎◌, ⊎_elim, List, [], ◌∷◌, ◌++◌, length, take, drop, fold, Some, refl, sym}
use Rattle.std.proofs.Common.{ap, subst, ◌∙◌, arith, append_assoc, append-nil, length-append, All, get_or, unwrap_or}
use Rattle.std.specs.Ordering.{match_ordering, is_eq}
use Rattle.std.specs.declared.cmp.Ordering.{Ordering}
use Rattle.std.specs.declared.cmp.Ordering.TheVariants.{Less, Equal, Greater}
use Rattle.std.proofs.lemmas.List.{get_or-drop, length-drop, take-append-drop, drop_all, take-map, drop-map}
use Rattle.std.proofs.lemmas.List.Elements.{All-nil, All-cons, All-head, All-tail}
use Rattle.std.proofs.lemmas.List.Kept.{AllPairs-cons}
use Rattle.std.proofs.lemmas.List.Sums.{sum_by-append}
use Rattle.std.proofs.lemmas.List.Concat.{flat_map-append}
use Rattle.fts_model.specs.declared.value.GroupValue.{GroupValue}
use Rattle.fts_model.specs.declared.operation.Stamped.{Stamped}
use Rattle.fts_model.specs.Documents.{DocumentValue}
use Rattle.fts_model.specs.Answers.{group_cmp, groups_in, groups, is_in_group}
use Rattle.fts_scan.specs.Scans.{hits_counted}
use Rattle.fts_model.proofs.Lists.{pairs_none, pairs_front, pairs_behind}
use Rattle.fts_scan.proofs.AnswersOrder.{group_order}
use Rattle.fts_scan.proofs.AnswersSteps.{hits_counted-groups}
use Rattle.fts_scan.proofs.AnswersGroups.{count_in-groups}
use Rattle.fts_scan.proofs.Counts.{count_in, Below, one_list_of_groups, order_above, order_below, rising-fold, positive-fold}
use Rattle.fts_parts.specs.Parts.{PartValue, joined}
use Rattle.fts_parts.specs.Internals.Joins.{counts_added, add_group, GroupsRise, AreGroupsOf}
use Rattle.fts_segment.proofs.SourceLemmas.{dropped}

-- no group is of no hits
abbrev pub ArePositive : List (GroupValue × ℕ) → Type 0
ArePositive list = All (λ g. 0 < g.1) list

-- two counts that fit are added
added_fits : (n m : ℕ) → n + m < 2 ^ 64 → counts_added n m ≡ n + m
added_fits n m h = omega (arith, h)

-- a part of a sum counts for a value or not
split_count : (b : Bool) (n m : ℕ) → cond b (n + m) 0 ≡ cond b n 0 + cond b m 0
split_count true n m = refl
split_count false n m = refl

-- a group more is counted for its value alone, however that stands to the first group's
counted_at : (o : Ordering) (group : GroupValue × ℕ) (others : List (GroupValue × ℕ)) (more : GroupValue × ℕ) (n : GroupValue) → group_cmp more.0 group.0 ≡ o →
    group.1 + more.1 < 2 ^ 64 →
    count_in group_cmp (add_group others more) n ≡ count_in group_cmp others n + cond (is_eq (group_cmp n more.0)) more.1 0 →
    count_in group_cmp (match_ordering o (more ∷ group ∷ others) ((group.0, counts_added group.1 more.1) ∷ others) (group ∷ add_group others more)) n
    ≡ count_in group_cmp (group ∷ others) n + cond (is_eq (group_cmp n more.0)) more.1 0
counted_at Less group others more n e fits rest = omega arith
counted_at Equal group others more n e fits rest =
    let same = ap {B = ℕ} (λ x. cond (is_eq (group_cmp n x)) more.1 0) (group_order.same more.0 group.0 e) in
    let sum = ap {B = ℕ} (λ c. cond (is_eq (group_cmp n group.0)) c 0) (added_fits group.1 more.1 fits) in
    let both = split_count (is_eq (group_cmp n group.0)) group.1 more.1 in
    omega (arith, same, sum, both)
counted_at Greater group others more n e fits rest = omega (arith, rest)

-- a group more is counted for its value alone
count_in-more : (others : List (GroupValue × ℕ)) (more : GroupValue × ℕ) (n : GroupValue) → hits_counted others + more.1 < 2 ^ 64 →
    count_in group_cmp (add_group others more) n ≡ count_in group_cmp others n + cond (is_eq (group_cmp n more.0)) more.1 0
count_in-more [] more n fits = omega arith
count_in-more (group ∷ others) more n fits =
    counted_at (group_cmp more.0 group.0) group others more n refl (omega (arith, fits)) (count_in-more others more n (omega (arith, fits)))

-- all of a group more are counted, however its value stands to the first group's
hits_at : (o : Ordering) (group : GroupValue × ℕ) (others : List (GroupValue × ℕ)) (more : GroupValue × ℕ) → group.1 + more.1 < 2 ^ 64 →
    hits_counted (add_group others more) ≡ hits_counted others + more.1 →
    hits_counted (match_ordering o (more ∷ group ∷ others) ((group.0, counts_added group.1 more.1) ∷ others) (group ∷ add_group others more))
    ≡ group.1 + hits_counted others + more.1
hits_at Less group others more fits rest = omega arith
hits_at Equal group others more fits rest = omega (arith, added_fits group.1 more.1 fits)
hits_at Greater group others more fits rest = omega (arith, rest)

-- all of a group more are counted
hits_counted-more : (others : List (GroupValue × ℕ)) (more : GroupValue × ℕ) → hits_counted others + more.1 < 2 ^ 64 →
    hits_counted (add_group others more) ≡ hits_counted others + more.1
hits_counted-more [] more fits = omega arith
hits_counted-more (group ∷ others) more fits =
    hits_at (group_cmp more.0 group.0) group others more (omega (arith, fits)) (hits_counted-more others more (omega (arith, fits)))

-- more groups are counted for their values
count_in-all : (others more : List (GroupValue × ℕ)) (n : GroupValue) → hits_counted others + hits_counted more < 2 ^ 64 →
    count_in group_cmp (fold add_group others more) n ≡ count_in group_cmp others n + count_in group_cmp more n
count_in-all others [] n fits = omega arith
count_in-all others (g ∷ more) n fits =
    let here : hits_counted others + g.1 < 2 ^ 64 = omega (arith, fits) in
    let step = hits_counted-more others g here in
    omega (arith, count_in-all (add_group others g) more n (omega (arith, fits, step)), count_in-more others g n here)

-- what holds of groups holds with one more, however its value stands to the first group's
all_at : (P : GroupValue × ℕ → Type 0) (o : Ordering) (group : GroupValue × ℕ) (others : List (GroupValue × ℕ)) (more : GroupValue × ℕ) →
    ((g : GroupValue × ℕ) (m : ℕ) → P g → P (g.0, counts_added g.1 m)) →
    P more → P group → All P others → All P (add_group others more) →
    All P (match_ordering o (more ∷ group ∷ others) ((group.0, counts_added group.1 more.1) ∷ others) (group ∷ add_group others more))
all_at P Less group others more grows p here behind rest = All-cons P more (group ∷ others) p (All-cons P group others here behind)
all_at P Equal group others more grows p here behind rest = All-cons P (group.0, counts_added group.1 more.1) others (grows group more.1 here) behind
all_at P Greater group others more grows p here behind rest = All-cons P group (add_group others more) here rest

-- what holds of groups holds with one more
All-add_group : (P : GroupValue × ℕ → Type 0) (others : List (GroupValue × ℕ)) (more : GroupValue × ℕ) →
    ((g : GroupValue × ℕ) (m : ℕ) → P g → P (g.0, counts_added g.1 m)) →
    P more → All P others → All P (add_group others more)
All-add_group P [] more grows p ps = All-cons P more [] p (All-nil P)
All-add_group P (group ∷ others) more grows p ps =
    let behind = All-tail P group others ps in
    all_at P (group_cmp more.0 group.0) group others more grows p (All-head P group others ps) behind (All-add_group P others more grows p behind)

-- groups that rise do so with one more, however its value stands to the first group's
rising_at : (o : Ordering) (group : GroupValue × ℕ) (others : List (GroupValue × ℕ)) (more : GroupValue × ℕ) → group_cmp more.0 group.0 ≡ o →
    GroupsRise (group ∷ others) → GroupsRise (add_group others more) →
    GroupsRise (match_ordering o (more ∷ group ∷ others) ((group.0, counts_added group.1 more.1) ∷ others) (group ∷ add_group others more))
rising_at Less group others more e rising rest =
    AllPairs-cons (Below group_cmp) more (group ∷ others)
    (All-cons (Below group_cmp more) group others e (λ k d lt. group_order.total.trans more.0 group.0 _ e (pairs_front (Below group_cmp) group others rising k d
    lt))) rising
rising_at Equal group others more e rising rest =
    AllPairs-cons (Below group_cmp) (group.0, counts_added group.1 more.1) others (pairs_front (Below group_cmp) group others rising)
    (pairs_behind (Below group_cmp) group others rising)
rising_at Greater group others more e rising rest =
    AllPairs-cons (Below group_cmp) group (add_group others more)
    (All-add_group (Below group_cmp group) others more (λ g m p. p) (order_below group_order more.0 group.0 e)
    (pairs_front (Below group_cmp) group others rising)) rest

-- groups that rise do so with one more
rising-add_group : (others : List (GroupValue × ℕ)) (more : GroupValue × ℕ) → GroupsRise others → GroupsRise (add_group others more)
rising-add_group [] more rising = AllPairs-cons (Below group_cmp) more [] (All-nil (Below group_cmp more)) (pairs_none (Below group_cmp))
rising-add_group (group ∷ others) more rising =
    rising_at (group_cmp more.0 group.0) group others more refl rising (rising-add_group others more (pairs_behind (Below group_cmp) group others rising))

-- groups that rise do so with more
rising-all : (others more : List (GroupValue × ℕ)) → GroupsRise others → GroupsRise (fold add_group others more)
rising-all others [] rising = rising
rising-all others (g ∷ more) rising = rising-all (add_group others g) more (rising-add_group others g rising)

-- a count that is raised stays over 0
positive_grows : (g : GroupValue × ℕ) (m : ℕ) → 0 < g.1 → 0 < counts_added g.1 m
positive_grows g m h = omega (arith, h)

-- no group of more is of no hits
positive-all : (others more : List (GroupValue × ℕ)) → ArePositive others → ArePositive more → ArePositive (fold add_group others more)
positive-all others [] ps qs = ps
positive-all others (g ∷ more) ps qs =
    let P : GroupValue × ℕ → Type 0 = λ g. 0 < g.1 in
    positive-all (add_group others g) more (All-add_group P others g positive_grows (All-head P g more qs) ps) (All-tail P g more qs)

-- groups rise
pub groups-rise : (field : ℕ) (hits : List (Stamped DocumentValue)) → GroupsRise (groups field hits)
groups-rise field hits = rising-fold group_order [] (groups_in field hits) (pairs_none (Below group_cmp))

-- and none is of no hits
pub groups-positive : (field : ℕ) (hits : List (Stamped DocumentValue)) → ArePositive (groups field hits)
groups-positive field hits = positive-fold group_order [] (groups_in field hits) (All-nil (λ g. 0 < g.1))

-- the groups of hits and of more hits, together
pub groups-together : (field : ℕ) (hits more : List (Stamped DocumentValue)) → length hits + length more < 2 ^ 64 →
    fold add_group (groups field hits) (groups field more) ≡ groups field (hits ++ more)
groups-together field hits more fits =
    let front = groups field hits in
    let back = groups field more in
    let few : hits_counted front + hits_counted back < 2 ^ 64 = omega (arith, fits, hits_counted-groups field hits, hits_counted-groups field more) in
    one_list_of_groups group_order (fold add_group front back) (groups field (hits ++ more)) (rising-all front back (groups-rise field hits))
    (positive-all front back (groups-positive field hits) (groups-positive field more))
    (groups-rise field (hits ++ more)) (groups-positive field (hits ++ more))
    (λ n. omega (
      arith,
      count_in-all front back n few,
      count_in-groups field n hits,
      count_in-groups field n more,
      count_in-groups field n (hits ++ more),
      sum_by-append (λ (h : Stamped DocumentValue). cond (is_in_group field n h.value) 1 0) hits more,
    ))

-- a group below all others stays in front
fold-behind : (group : GroupValue × ℕ) (others more : List (GroupValue × ℕ)) → All (Below group_cmp group) more →
    fold add_group (group ∷ others) more ≡ group ∷ fold add_group others more
fold-behind group others [] above = refl
fold-behind group others (g ∷ more) above =
    let greater : group_cmp g.0 group.0 ≡ Greater = order_above group_order group.0 g.0 (All-head (Below group_cmp group) g more above) in
    ap (λ o. fold add_group (match_ordering o (g ∷ group ∷ others) ((group.0, counts_added group.1 g.1) ∷ others) (group ∷ add_group others g)) more) greater
    ∙ fold-behind group (add_group others g) more (All-tail (Below group_cmp group) g more above)

-- groups that rise, added to none
pub fold-rising : (more : List (GroupValue × ℕ)) → GroupsRise more → fold add_group [] more ≡ more
fold-rising [] rising = refl
fold-rising (g ∷ more) rising =
    fold-behind g [] more (pairs_front (Below group_cmp) g more rising) ∙ ap (λ gs. g ∷ gs) (fold-rising more (pairs_behind (Below group_cmp) g more rising))

-- the lower of two first groups comes first, and two of one value are one
pub merge-less : (a b : GroupValue × ℕ) (us bs : List (GroupValue × ℕ)) → GroupsRise (b ∷ bs) → group_cmp b.0 a.0 ≡ Less →
    fold add_group (a ∷ us) (b ∷ bs) ≡ b ∷ fold add_group (a ∷ us) bs
merge-less a b us bs rising e =
    ap (λ o. fold add_group (match_ordering o (b ∷ a ∷ us) ((a.0, counts_added a.1 b.1) ∷ us) (a ∷ add_group us b)) bs) e
    ∙ fold-behind b (a ∷ us) bs (pairs_front (Below group_cmp) b bs rising)

pub merge-equal : (a b : GroupValue × ℕ) (us bs : List (GroupValue × ℕ)) → GroupsRise (b ∷ bs) → group_cmp b.0 a.0 ≡ Equal →
    fold add_group (a ∷ us) (b ∷ bs) ≡ (a.0, counts_added a.1 b.1) ∷ fold add_group us bs
merge-equal a b us bs rising e =
    let P : GroupValue → Type 0 = λ n. All (λ (g : GroupValue × ℕ). group_cmp n g.0 ≡ Less) bs in
    ap (λ o. fold add_group (match_ordering o (b ∷ a ∷ us) ((a.0, counts_added a.1 b.1) ∷ us) (a ∷ add_group us b)) bs) e
    ∙ fold-behind (a.0, counts_added a.1 b.1) us bs (subst P (group_order.same b.0 a.0 e) (pairs_front (Below group_cmp) b bs rising))

pub merge-greater : (a b : GroupValue × ℕ) (us bs : List (GroupValue × ℕ)) → GroupsRise (b ∷ bs) → group_cmp b.0 a.0 ≡ Greater →
    fold add_group (a ∷ us) (b ∷ bs) ≡ a ∷ fold add_group us (b ∷ bs)
merge-greater a b us bs rising e =
    let below : Below group_cmp a b = order_below group_order b.0 a.0 e in
    fold-behind a us (b ∷ bs)
    (All-cons (Below group_cmp a) b bs below (λ k d lt. group_order.total.trans a.0 b.0 _ below (pairs_front (Below group_cmp) b bs rising k d lt)))

-- groups that rise do so from a place on
rising-drop : (xs : List (GroupValue × ℕ)) (i : ℕ) → GroupsRise xs → GroupsRise (drop i xs)
rising-drop xs k rising = λ i j d up lt.
    let within : k + j < length xs = omega (arith, length-drop k xs, lt) in
    let P : GroupValue × ℕ → Type 0 = λ a. Below group_cmp a (get_or (drop k xs) j d) in
    let Q : GroupValue × ℕ → Type 0 = Below group_cmp (get_or xs (k + i) d) in
    subst P (sym (get_or-drop k xs i d)) (subst Q (sym (get_or-drop k xs j d)) (rising (k + i) (k + j) d (omega (arith, up)) within))

-- a step of merging puts the lower first group behind what was put
pub merged-less : (front back list : List (GroupValue × ℕ)) (i j : ℕ) (a b : GroupValue × ℕ) (all : List (GroupValue × ℕ)) → i < length front →
    j < length back →
    a ≡ get_or front i a → b ≡ get_or back j b → group_cmp b.0 a.0 ≡ Less → GroupsRise back → list ++ fold add_group (drop i front) (drop j back) ≡ all →
    (list ++ b ∷ []) ++ fold add_group (drop i front) (drop (j + 1) back) ≡ all
merged-less front back list i j a b all h l at here e rising is =
    let us = drop (i + 1) front in
    let bs = drop (j + 1) back in
    let P : List (GroupValue × ℕ) → Type 0 = GroupsRise in
    let up : GroupsRise (b ∷ bs) = subst P (dropped back j b l here) (rising-drop back j rising) in
    append_assoc list (b ∷ []) (fold add_group (drop i front) bs)
    ∙ ap (λ xs. list ++ b ∷ fold add_group xs bs) (dropped front i a h at)
    ∙ ap (λ xs. list ++ xs) (sym (merge-less a b us bs up e))
    ∙ ap (λ xs. list ++ fold add_group xs (b ∷ bs)) (sym (dropped front i a h at))
    ∙ ap (λ xs. list ++ fold add_group (drop i front) xs) (sym (dropped back j b l here))
    ∙ is

pub merged-equal : (front back list : List (GroupValue × ℕ)) (i j : ℕ) (a b : GroupValue × ℕ) (all : List (GroupValue × ℕ)) → i < length front →
    j < length back →
    a ≡ get_or front i a → b ≡ get_or back j b → group_cmp b.0 a.0 ≡ Equal → GroupsRise back → list ++ fold add_group (drop i front) (drop j back) ≡ all →
    (list ++ (a.0, counts_added a.1 b.1) ∷ []) ++ fold add_group (drop (i + 1) front) (drop (j + 1) back) ≡ all
merged-equal front back list i j a b all h l at here e rising is =
    let us = drop (i + 1) front in
    let bs = drop (j + 1) back in
    let P : List (GroupValue × ℕ) → Type 0 = GroupsRise in
    let up : GroupsRise (b ∷ bs) = subst P (dropped back j b l here) (rising-drop back j rising) in
    append_assoc list ((a.0, counts_added a.1 b.1) ∷ []) (fold add_group us bs)
    ∙ ap (λ xs. list ++ xs) (sym (merge-equal a b us bs up e))
    ∙ ap (λ xs. list ++ fold add_group xs (b ∷ bs)) (sym (dropped front i a h at))
    ∙ ap (λ xs. list ++ fold add_group (drop i front) xs) (sym (dropped back j b l here))
    ∙ is

pub merged-greater : (front back list : List (GroupValue × ℕ)) (i j : ℕ) (a b : GroupValue × ℕ) (all : List (GroupValue × ℕ)) → i < length front →
    j < length back →
    a ≡ get_or front i a → b ≡ get_or back j b → group_cmp b.0 a.0 ≡ Greater → GroupsRise back → list ++ fold add_group (drop i front) (drop j back) ≡ all →
    (list ++ a ∷ []) ++ fold add_group (drop (i + 1) front) (drop j back) ≡ all
merged-greater front back list i j a b all h l at here e rising is =
    let us = drop (i + 1) front in
    let bs = drop (j + 1) back in
    let P : List (GroupValue × ℕ) → Type 0 = GroupsRise in
    let up : GroupsRise (b ∷ bs) = subst P (dropped back j b l here) (rising-drop back j rising) in
    append_assoc list (a ∷ []) (fold add_group us (drop j back))
    ∙ ap (λ xs. list ++ a ∷ fold add_group us xs) (dropped back j b l here)
    ∙ ap (λ xs. list ++ xs) (sym (merge-greater a b us bs up e))
    ∙ ap (λ xs. list ++ fold add_group xs (b ∷ bs)) (sym (dropped front i a h at))
    ∙ ap (λ xs. list ++ fold add_group (drop i front) xs) (sym (dropped back j b l here))
    ∙ is

-- where one list is at its end, the rest of both follows
pub merged-end : (front back list : List (GroupValue × ℕ)) (i j : ℕ) (all : List (GroupValue × ℕ)) → (length front ≤ i) ⊎ (length back ≤ j) → GroupsRise back →
    list ++ fold add_group (drop i front) (drop j back) ≡ all → (list ++ drop i front) ++ drop j back ≡ all
merged-end front back list i j all end rising is =
    ⊎_elim
    (λ (past : length front ≤ i).
    let none : drop i front ≡ [] = drop_all i front past in
    ap (λ xs. (list ++ xs) ++ drop j back) none ∙ ap (λ xs. xs ++ drop j back) (append-nil list)
    ∙ ap (λ xs. list ++ xs) (sym (fold-rising (drop j back) (rising-drop back j rising)))
    ∙ ap (λ xs. list ++ fold add_group xs (drop j back)) (sym none) ∙ is)
    (λ (past : length back ≤ j).
    let none : drop j back ≡ [] = drop_all j back past in
    ap (λ xs. (list ++ drop i front) ++ xs) none ∙ append-nil (list ++ drop i front) ∙ ap (λ xs. list ++ fold add_group (drop i front) xs) (sym none) ∙ is)
    end

-- the lists of the parts in front, and those of the parts behind
pub AreGroupsOf-take : (field n : ℕ) (lists : List (List (Stamped DocumentValue))) (parts : List PartValue) → AreGroupsOf field lists parts →
    AreGroupsOf field (take n lists) (take n parts)
AreGroupsOf-take field n lists parts are =
    sym (take-map (λ (part : PartValue). part.answer.groups) n parts) ∙ ap (take n) are
    ∙ take-map (λ (hits : List (Stamped DocumentValue)). Some (groups field hits)) n lists

pub AreGroupsOf-drop : (field n : ℕ) (lists : List (List (Stamped DocumentValue))) (parts : List PartValue) → AreGroupsOf field lists parts →
    AreGroupsOf field (drop n lists) (drop n parts)
AreGroupsOf-drop field n lists parts are =
    sym (drop-map (λ (part : PartValue). part.answer.groups) n parts) ∙ ap (drop n) are
    ∙ drop-map (λ (hits : List (Stamped DocumentValue)). Some (groups field hits)) n lists

-- the hits of some lists and of the others are those of all
pub joined-split : (n : ℕ) (lists : List (List (Stamped DocumentValue))) → joined (take n lists) ++ joined (drop n lists) ≡ joined lists
joined-split n lists = sym (flat_map-append (λ hits. hits) (take n lists) (drop n lists)) ∙ ap joined (take-append-drop n lists)

-- the groups of one part are those of its hits
pub groups-alone : (field : ℕ) (lists : List (List (Stamped DocumentValue))) (part : PartValue) → AreGroupsOf field lists (part ∷ []) →
    unwrap_or part.answer.groups [] ≡ groups field (joined lists)
groups-alone field [] part are = cc
groups-alone field (hits ∷ []) part are =
    let here : part.answer.groups ≡ Some (groups field hits) = cc in
    ap (λ o. unwrap_or o []) here ∙ ap (groups field) (sym (append-nil hits))
groups-alone field (hits ∷ more ∷ lists) part are = cc

-- a list of one element
pub only_one : (parts : List PartValue) (part : PartValue) → part ≡ get_or parts 0 part → 1 ≤ length parts → length parts < 2 → parts ≡ part ∷ []
only_one [] part is some few = absurd (omega (arith, some))
only_one (p ∷ []) part is some few = ap (λ x. x ∷ []) (sym is)
only_one (p ∷ q ∷ ps) part is some few = absurd (omega (arith, few))

-- the groups of two halves of parts are those of all
pub groups-halves : (field n : ℕ) (lists : List (List (Stamped DocumentValue))) → length (joined lists) < 2 ^ 64 →
    fold add_group (groups field (joined (take n lists))) (groups field (joined (drop n lists))) ≡ groups field (joined lists)
groups-halves field n lists few =
    let front = joined (take n lists) in
    let back = joined (drop n lists) in
    let whole = joined-split n lists in
    groups-together field front back (omega (arith, few, sym (length-append front back) ∙ ap length whole)) ∙ ap (groups field) whole

-- neither half has more hits than all
pub few-halves : (n : ℕ) (lists : List (List (Stamped DocumentValue))) → length (joined (take n lists)) + length (joined (drop n lists)) ≡ length (joined lists)
few-halves n lists = sym (length-append (joined (take n lists)) (joined (drop n lists))) ∙ ap length (joined-split n lists)
