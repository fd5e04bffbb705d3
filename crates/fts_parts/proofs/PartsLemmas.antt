-- What parts tell of the hits of a whole.
use Rattle.std.proofs.Common.{◌≡◌, ℕ, cond, ⊎_elim, List, [], ◌∷◌, ◌++◌, length, map, Option, Some, None, refl, sym, ap, subst, ◌∙◌, arith, append-nil}
use Rattle.std.proofs.Common.{append_assoc, Contains, unwrap_or, option_map, sum_by}
use Rattle.std.specs.List.{flat_map, filter_map, cons_option}
use Rattle.std.specs.List.Sorted.{IsPermutation}
use Rattle.std.proofs.lemmas.List.{length-append}
use Rattle.fts_segment.proofs.OccurrencesLemmas.{map-map}
use Rattle.std.proofs.lemmas.List.Elements.{filter_map-append}
use Rattle.std.proofs.lemmas.List.Sums.{sum_by-cons}
use Rattle.std.proofs.lemmas.List.Concat.{flat_map-append}
use Rattle.std.proofs.lemmas.List.Sorted.{IsPermutation-sym, IsPermutation-trans, IsPermutation-append_right, IsPermutation-append_comm, Contains-permutation}
use Rattle.std.proofs.lemmas.List.Sorted.{length_permutation, sum_by-IsPermutation}
use Rattle.fts_model.specs.declared.operation.Stamped.{Stamped}
use Rattle.fts_model.specs.declared.query.Order.{Order}
use Rattle.fts_model.specs.declared.query.Top.{Top}
use Rattle.fts_model.specs.declared.query.Request.{Request}
use Rattle.fts_model.specs.declared.answer.Hit.{Hit}
use Rattle.fts_model.specs.Documents.{DocumentValue}
use Rattle.fts_model.specs.Operations.{HasEachStampOnce}
use Rattle.fts_model.specs.Answers.{AnswerValue, answer_of, groups, is_in_group, hit_in, top}
use Rattle.fts_model.specs.Answers as answers
use Rattle.fts_model.proofs.Lists.{Contains-cases, Contains-first, Contains-behind, Contains-none}
use Rattle.fts_scan.proofs.AnswersGroups.{count_in-groups}
use Rattle.fts_scan.proofs.AnswersTop.{once-hits_in}
use Rattle.fts_parts.specs.Parts.{PartValue, joined, ArePartsOf}
use Rattle.fts_parts.specs.Internals.Joins.{AreApart, AreGroupsOf, first_of, hits_in, all_hits}
use Rattle.fts_parts.proofs.ApartLemmas.{once-permuted}
use Rattle.fts_parts.proofs.FirstLemmas.{first_of-members, first_of-firsts, firsts_apart}
use Rattle.fts_scan.proofs.AnswersOrder.{group_order}
use Rattle.fts_scan.proofs.Counts.{one_list_of_groups}
use Rattle.fts_parts.proofs.GroupsLemmas.{groups-rise, groups-positive}

-- the hits of several lists with a number are those of each
hits_in-joined : (field : ℕ) (lists : List (List (Stamped DocumentValue))) →
    answers.hits_in field (joined lists) ≡ flat_map (λ hits. hits) (map (answers.hits_in field) lists)
hits_in-joined field [] = refl
hits_in-joined field (hits ∷ lists) =
    filter_map-append (hit_in field) hits (joined lists) ∙ ap (λ more. answers.hits_in field hits ++ more) (hits_in-joined field lists)

-- how many hits several lists have
sum_of-lengths : (parts : List PartValue) (lists : List (List (Stamped DocumentValue))) →
    map (λ part. part.answer.count) parts ≡ map (λ hits. length hits) lists →
    sum_by (λ part. part.answer.count) parts ≡ length (joined lists)
sum_of-lengths [] [] told = refl
sum_of-lengths [] (hits ∷ lists) told = cc
sum_of-lengths (part ∷ parts) [] told = cc
sum_of-lengths (part ∷ parts) (hits ∷ lists) told =
    let here : part.answer.count ≡ length hits = cc in
    let rest : map (λ (part : PartValue). part.answer.count) parts ≡ map (λ (hits : List (Stamped DocumentValue)). length hits) lists = cc in
    omega (arith, sum_by-cons (λ (part : PartValue). part.answer.count) part parts, here, sum_of-lengths parts lists rest, length-append hits (joined lists))

-- the top lists of parts that tell of several lists of hits
all_hits-told : (k : ℕ) (order : Order) (field : ℕ) (parts : List PartValue) (lists : List (List (Stamped DocumentValue))) →
    map (λ part. part.answer.top) parts ≡ map (λ hits. Some (top k order field hits)) lists →
    all_hits parts ≡ flat_map (first_of k order) (map (answers.hits_in field) lists)
all_hits-told k order field [] [] told = refl
all_hits-told k order field [] (hits ∷ lists) told = cc
all_hits-told k order field (part ∷ parts) [] told = cc
all_hits-told k order field (part ∷ parts) (hits ∷ lists) told =
    let here : part.answer.top ≡ Some (top k order field hits) = cc in
    let rest : map (λ (part : PartValue). part.answer.top) parts ≡ map (λ (hits : List (Stamped DocumentValue)). Some (top k order field hits)) lists = cc in
    ap (λ o. unwrap_or o [] ++ all_hits parts) here ∙ ap (λ more. top k order field hits ++ more) (all_hits-told k order field parts lists rest)

-- a member that is mapped to another stands there, whether the first is kept or not
Contains-kept : {X Y : Type 0} (h : X → Option Y) (x : X) (xs : List X) (o : Option Y) (z : Y) → h x ≡ o →
    (Contains (filter_map h xs) z → (y : X) × Contains xs y × (h y ≡ Some z)) → Contains (cons_option o (filter_map h xs)) z →
    (y : X) × Contains (x ∷ xs) y × (h y ≡ Some z)
Contains-kept h x xs None z e rest at = let r = rest at in (r.0, Contains-behind x xs r.0 r.1, r.2)
Contains-kept h x xs (Some y) z e rest at =
    ⊎_elim (λ (same : y ≡ z). (x, Contains-first x xs x refl, e ∙ ap Some same))
    (λ (later : Contains (filter_map h xs) z). let r = rest later in (r.0, Contains-behind x xs r.0 r.1, r.2))
    (Contains-cases y (filter_map h xs) z at)

Contains-from_filter_map : {X Y : Type 0} (h : X → Option Y) (xs : List X) (z : Y) → Contains (filter_map h xs) z → (y : X) × Contains xs y × (h y ≡ Some z)
Contains-from_filter_map h [] z at = absurd (Contains-none z at)
Contains-from_filter_map h (x ∷ xs) z at = Contains-kept h x xs (h x) z refl (Contains-from_filter_map h xs z) at

Contains-put : {X Y : Type 0} (h : X → Option Y) (x : X) (xs : List X) (o : Option Y) (y : X) (z : Y) → h x ≡ o → h y ≡ Some z →
    (Contains xs y → Contains (filter_map h xs) z) → Contains (x ∷ xs) y → Contains (cons_option o (filter_map h xs)) z
Contains-put h x xs None y z e is rest at =
    ⊎_elim (λ (same : x ≡ y). let no : None ≡ Some z = sym e ∙ ap h same ∙ is in cc) (λ (later : Contains xs y). rest later) (Contains-cases x xs y at)
Contains-put {X} {Y} h x xs (Some w) y z e is rest at =
    ⊎_elim (λ (same : x ≡ y). let one : Some w ≡ Some z = sym e ∙ ap h same ∙ is in Contains-first w (filter_map h xs) z cc)
    (λ (later : Contains xs y). Contains-behind w (filter_map h xs) z (rest later)) (Contains-cases x xs y at)

Contains-filter_map : {X Y : Type 0} (h : X → Option Y) (xs : List X) (y : X) (z : Y) → h y ≡ Some z → Contains xs y → Contains (filter_map h xs) z
Contains-filter_map h [] y z is at = absurd (Contains-none y at)
Contains-filter_map h (x ∷ xs) y z is at = Contains-put h x xs (h x) y z refl is (Contains-filter_map h xs y z is) at

-- what hits in another order have, they have
hits_in-members : (field : ℕ) (hits others : List (Stamped DocumentValue)) → IsPermutation hits others → (z : Hit) →
    Contains (answers.hits_in field hits) z → Contains (answers.hits_in field others) z
hits_in-members field hits others is z at =
    let from = Contains-from_filter_map (hit_in field) hits z at in
    Contains-filter_map (hit_in field) others from.0 z from.2 (Contains-permutation hits others from.0 is from.1)

-- the top list is the same in whatever order the hits are
top-permuted : (k : ℕ) (order : Order) (field : ℕ) (hits others : List (Stamped DocumentValue)) → IsPermutation hits others → HasEachStampOnce hits →
    top k order field hits ≡ top k order field others
top-permuted k order field hits others is once =
    first_of-members k order (answers.hits_in field hits) (answers.hits_in field others) (once-hits_in field hits once)
    (once-hits_in field others (once-permuted (λ (d : Stamped DocumentValue). d.stamp) hits others is once))
    (hits_in-members field hits others is) (hits_in-members field others hits (IsPermutation-sym hits others is))

-- so are the groups
groups-permuted : (field : ℕ) (hits others : List (Stamped DocumentValue)) → IsPermutation hits others → groups field hits ≡ groups field others
groups-permuted field hits others is =
    one_list_of_groups group_order (groups field hits) (groups field others) (groups-rise field hits) (groups-positive field hits) (groups-rise field others)
    (groups-positive field others)
    (λ n. count_in-groups field n hits ∙ sym (sum_by-IsPermutation (λ (h : Stamped DocumentValue). cond (is_in_group field n h.value) 1 0) hits others is)
    ∙ sym (count_in-groups field n others))

-- what parts tell, seen by one of their fields
told_by : {Y : Type 0} (f : AnswerValue → Y) (request : Request) (parts : List PartValue) (lists : List (List (Stamped DocumentValue))) →
    map (λ part. part.answer) parts ≡ map (answer_of request) lists → map (λ part. f part.answer) parts ≡ map (λ hits. f (answer_of request hits)) lists
told_by f request parts lists told = map-map f (λ (part : PartValue). part.answer) parts ∙ ap (map f) told ∙ sym (map-map f (answer_of request) lists)

-- the parts have all hits together
pub count-joined : (request : Request) (hits : List (Stamped DocumentValue)) (parts : List PartValue) → ArePartsOf request hits parts →
    sum_by (λ part. part.answer.count) parts ≡ length hits
count-joined request hits parts are =
    sum_of-lengths parts are.lists (told_by (λ (a : AnswerValue). a.count) request parts are.lists are.told)
    ∙ sym (length_permutation (joined are.lists) hits are.cut)

-- the groups of parts are those of lists of hits
pub groups-told : (request : Request) (field : ℕ) (hits : List (Stamped DocumentValue)) (parts : List PartValue) → request.groups ≡ Some field →
    (are : ArePartsOf request hits parts) → AreGroupsOf field are.lists parts
groups-told request field hits parts e are =
    told_by (λ (a : AnswerValue). a.groups) request parts are.lists are.told
    ∙ ap (λ (o : Option ℕ). map (λ (hits : List (Stamped DocumentValue)). option_map (λ field. groups field hits) o) are.lists) e

-- the groups of all lists are those of the hits
pub groups-joined : (request : Request) (field : ℕ) (hits : List (Stamped DocumentValue)) (parts : List PartValue) →
    (are : ArePartsOf request hits parts) → groups field (joined are.lists) ≡ groups field hits
groups-joined request field hits parts are = groups-permuted field (joined are.lists) hits are.cut

-- all lists have as many hits
pub length-joined : (request : Request) (hits : List (Stamped DocumentValue)) (parts : List PartValue) →
    (are : ArePartsOf request hits parts) → length (joined are.lists) ≡ length hits
length-joined request hits parts are = sym (length_permutation (joined are.lists) hits are.cut)

-- what is known of the top lists of parts
pub record Tops (wanted : Top) (hits : List (Stamped DocumentValue)) (parts : List PartValue) : Type 0 where
  pub apart : AreApart (all_hits parts)
  pub first : first_of wanted.k wanted.order (all_hits parts) ≡ top wanted.k wanted.order wanted.by hits

-- the first of the top lists of parts are the top list of the hits
pub top-joined : (request : Request) (wanted : Top) (hits : List (Stamped DocumentValue)) (parts : List PartValue) → request.top ≡ Some wanted →
    ArePartsOf request hits parts → HasEachStampOnce hits → Tops wanted hits parts
top-joined request wanted hits parts e are once =
    let k = wanted.k in
    let order = wanted.order in
    let field = wanted.by in
    let found = map (answers.hits_in field) are.lists in
    let told : map (λ (part : PartValue). part.answer.top) parts ≡ map (λ (hits : List (Stamped DocumentValue)). Some (top k order field hits)) are.lists =
    told_by (λ (a : AnswerValue). a.top) request parts are.lists are.told
    ∙ ap (λ (o : Option Top). map (λ (hits : List (Stamped DocumentValue)). option_map (λ t. top t.k t.order t.by hits) o) are.lists) e in
    let whole = all_hits-told k order field parts are.lists told in
    let each : HasEachStampOnce (joined are.lists) =
    once-permuted (λ (d : Stamped DocumentValue). d.stamp) hits (joined are.lists) (IsPermutation-sym (joined are.lists) hits are.cut) once in
    let P : List Hit → Type 0 = AreApart in
    let apart : AreApart (flat_map (λ hits. hits) found) = subst P (hits_in-joined field are.lists) (once-hits_in field (joined are.lists) each) in
    record {
      apart = subst P (sym whole) (firsts_apart k order found apart);
      first = ap (first_of k order) whole ∙ first_of-firsts k order found apart ∙ ap (first_of k order) (sym (hits_in-joined field are.lists))
          ∙ top-permuted k order field (joined are.lists) hits are.cut each;
    }

-- the hits of parts of which the last is taken away
pub all_hits-push : (parts : List PartValue) (part : PartValue) → all_hits (parts ++ part ∷ []) ≡ all_hits parts ++ hits_in part
all_hits-push parts part = flat_map-append hits_in parts (part ∷ []) ∙ ap (λ hits. all_hits parts ++ hits) (append-nil (hits_in part))

-- the hits of the last part move behind others
pub all_hits-moved : (all : List Hit) (parts : List PartValue) (part : PartValue) (hits : List Hit) →
    IsPermutation all (all_hits (parts ++ part ∷ []) ++ hits) →
    IsPermutation all (all_hits parts ++ (hits ++ hits_in part))
all_hits-moved all parts part hits is =
    let front = all_hits parts in
    let P : List Hit → Type 0 = IsPermutation all in
    let same : all_hits (parts ++ part ∷ []) ++ hits ≡ front ++ (hits_in part ++ hits) = ap (λ xs. xs ++ hits) (all_hits-push parts part)
    ∙ append_assoc front (hits_in part) hits in
    IsPermutation-trans all (front ++ (hits_in part ++ hits)) (front ++ (hits ++ hits_in part)) (subst P same is)
    (IsPermutation-append_right front (hits_in part ++ hits) (hits ++ hits_in part) (IsPermutation-append_comm (hits_in part) hits))

-- two answers that tell the same are one
pub same_answer : (a b : AnswerValue) → a.count ≡ b.count → a.groups ≡ b.groups → a.top ≡ b.top → a ≡ b
same_answer a b p q r =
    ap (λ n. record { count = n; groups = a.groups; top = a.top }) p
    ∙ ap (λ gs. record { count = b.count; groups = gs; top = a.top }) q
    ∙ ap (λ hits. record { count = b.count; groups = b.groups; top = hits }) r
