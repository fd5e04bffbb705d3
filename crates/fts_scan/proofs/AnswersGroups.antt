-- The groups, and that there is only one list of them.
use Rattle.std.proofs.Common.{◌≡◌, ℕ, ◌+◌, ◌<◌, Bool, false, cond, List, [], ◌∷◌, Option, Some, None, refl, sym, subst, ◌∙◌, arith, All, AllPairs, Contains}
use Rattle.std.proofs.Common.{count_by}
use Rattle.std.specs.List.{cons_option}
use Rattle.std.specs.Option.{option_map_or}
use Rattle.std.specs.Ordering.{is_eq}
use Rattle.std.proofs.lemmas.List.Elements.{All-nil}
use Rattle.std.proofs.lemmas.List.Sums.{sum_by-cons}
use Rattle.fts_model.specs.declared.value.GroupValue.{GroupValue}
use Rattle.fts_model.specs.declared.operation.Stamped.{Stamped}
use Rattle.fts_model.specs.Documents.{DocumentValue}
use Rattle.fts_model.specs.Answers.{group_cmp, group_in, groups_in, groups, is_in_group, hits_with, IsGroups}
use Rattle.fts_model.proofs.Lists.{pairs_none, one_order}
use Rattle.fts_scan.proofs.AnswersOrder.{group_order}
use Rattle.fts_scan.proofs.Counts.{Below, Below-one_way, count_in, count_in-fold, count_in-at, count_in-there, rising-fold, positive-fold}

-- the number of members that pass, with an optional member in front
count_by-option : {X : Type 0} (p : X → Bool) (o : Option X) (xs : List X) → count_by p (cons_option o xs) ≡ cond (option_map_or p o false) 1 0 + count_by p xs
count_by-option p None xs = omega arith
count_by-option p (Some x) xs = sum_by-cons (λ x. cond (p x) 1 0) x xs

-- the occurrences of a value among the values of the hits are the hits that have it
pub count_by-groups_in : (field : ℕ) (n : GroupValue) (hits : List (Stamped DocumentValue)) →
    count_by (λ m. is_eq (group_cmp n m)) (groups_in field hits) ≡ hits_with field n hits
count_by-groups_in field n [] = refl
count_by-groups_in field n (hit ∷ hits) =
    omega (
      arith,
      count_by-option (λ m. is_eq (group_cmp n m)) (group_in hit.value field) (groups_in field hits),
      count_by-groups_in field n hits,
      sum_by-cons (λ (h : Stamped DocumentValue). cond (is_in_group field n h.value) 1 0) hit hits,
    )

-- the groups give each value the number of hits that have it
pub count_in-groups : (field : ℕ) (n : GroupValue) (hits : List (Stamped DocumentValue)) → count_in group_cmp (groups field hits) n ≡ hits_with field n hits
count_in-groups field n hits = count_in-fold group_order [] (groups_in field hits) n ∙ omega (arith, count_by-groups_in field n hits)

-- the groups satisfy the definition of groups
pub groups-IsGroups : (field : ℕ) (hits : List (Stamped DocumentValue)) → IsGroups field hits (groups field hits)
groups-IsGroups field hits =
    let list = groups field hits in
    let rising : AllPairs (Below group_cmp) list = rising-fold group_order [] (groups_in field hits) (pairs_none (Below group_cmp)) in
    let positive : All (λ g. 0 < g.1) list = positive-fold group_order [] (groups_in field hits) (All-nil (λ g. 0 < g.1)) in
    record {
      rising = rising;
      counted = λ n count. (
        λ at. (
          sym (count_in-at group_order list n count rising at) ∙ count_in-groups field n hits,
          let P : GroupValue × ℕ → Type 0 = λ g. 0 < g.1 in subst P at.2 (positive at.0 (n, count) at.1),
        ),
        λ is.
            let same : count ≡ count_in group_cmp list n = is.0 ∙ sym (count_in-groups field n hits) in
            let P : ℕ → Type 0 = λ c. Contains list (n, c) in
            subst P (sym same) (count_in-there group_order list n rising (omega (arith, is.1, same))),
      );
    }

-- only one list satisfies the definition of groups
pub IsGroups-one : (field : ℕ) (hits : List (Stamped DocumentValue)) (a b : List (GroupValue × ℕ)) → IsGroups field hits a → IsGroups field hits b → a ≡ b
IsGroups-one field hits a b p q =
    one_order (Below group_cmp) (Below-one_way group_order) a b p.rising q.rising
    (λ group at. (q.counted group.0 group.1).1 ((p.counted group.0 group.1).0 at))
    (λ group at. (p.counted group.0 group.1).1 ((q.counted group.0 group.1).0 at))
