-- Values in order: the length of a run of equal values is the count of the value.
use Rattle.std.proofs.Common.{◌≡◌, ℕ, ◌+◌, ◌<◌, Bool, true, false, cond, List, [], ◌∷◌, map, fold, refl, sym, ap, subst, ◌∙◌, arith, All, AllPairs, get_or}
use Rattle.std.specs.List.Sorted.{IsPermutation, IsSorted}
use Rattle.std.specs.Ordering.{match_ordering, is_eq, is_lt, nat_cmp}
use Rattle.std.specs.Prelude.{nat_eq}
use Rattle.std.specs.declared.cmp.Ordering.{Ordering}
use Rattle.std.specs.declared.cmp.Ordering.TheVariants.{Less, Equal, Greater}
use Rattle.std.proofs.lemmas.Bool.Decides.{nat_tests}
use Rattle.std.proofs.lemmas.Cmp.{tied_back}
use Rattle.std.proofs.lemmas.List.Elements.{All-nil, All-head, All-tail}
use Rattle.std.proofs.lemmas.List.Kept.{AllPairs-cons}
use Rattle.std.proofs.lemmas.List.Sorted.{ranks_by, sorted_far, sum_by-IsPermutation}
use Rattle.itertools.specs.List.{dedup_with_count_from}
use Rattle.fts_model.specs.Answers.{count_one}
use Rattle.fts_model.proofs.Lists.{pairs_behind, pairs_front, pairs_none}
use Rattle.fts_scan.specs.Scans.{counts_of_sorted}
use Rattle.fts_scan.proofs.Counts.{IsOneOrder, Below, order_above, order_below, count_in-fold, one_list_of_groups, rising-fold, positive-fold}

-- a value is not above another
abbrev NotAbove : {V : Type 0} → (V → V → Ordering) → V → V → Type 0
NotAbove cmp a b = is_lt (cmp b a) ≡ false

-- no value is below an earlier one
abbrev Rise : {V : Type 0} → (V → V → Ordering) → List V → Type 0
Rise cmp values = AllPairs (NotAbove cmp) values

-- a value with its count
abbrev group_of_count : {V : Type 0} → ℕ × V → V × ℕ
group_of_count counted = (counted.1, counted.0)

-- an ordering that the test of equality accepts is `Equal`
is_equal : (o : Ordering) → is_eq o ≡ true → o ≡ Equal
is_equal Less h = let contra : false ≡ true = h in cc
is_equal Equal h = refl
is_equal Greater h = let contra : false ≡ true = h in cc

-- the test of equality of numbers agrees with their order
pub nat_eq-is_eq : (x y : ℕ) → nat_eq x y ≡ is_eq (nat_cmp x y)
nat_eq-is_eq x y = grind (arith, nat_tests)

module _ {V : Type 0} {cmp : V → V → Ordering} (order : IsOneOrder cmp) where
  -- a value that is neither below nor equal to another is above it
  above_other : (o : Ordering) (x y : V) → cmp x y ≡ o → NotAbove cmp x y → is_eq o ≡ false → cmp x y ≡ Less
  above_other Less x y e up other = e
  above_other Equal x y e up other = let contra : true ≡ false = other in cc
  above_other Greater x y e up other = let contra : true ≡ false = sym (ap is_lt (order_below order x y e)) ∙ up in cc

  -- a value below another is below all that are not below that one
  below_all : (o : Ordering) (x y z : V) → cmp y z ≡ o → cmp x y ≡ Less → NotAbove cmp y z → cmp x z ≡ Less
  below_all Less x y z e h up = order.total.trans x y z h e
  below_all Equal x y z e h up = let P : V → Type 0 = λ w. cmp x w ≡ Less in subst P (order.same y z e) h
  below_all Greater x y z e h up = let contra : true ≡ false = sym (ap is_lt (order_below order y z e)) ∙ up in cc

  -- a value above the first is counted after it
  pub count_one-behind : (y x : V) (count : ℕ) (rest : List (V × ℕ)) → cmp x y ≡ Less →
      count_one cmp ((x, count) ∷ rest) y ≡ (x, count) ∷ count_one cmp rest y
  count_one-behind y x count rest h =
      ap (λ o. match_ordering o ((y, 1) ∷ (x, count) ∷ rest) ((x, count + 1) ∷ rest) ((x, count) ∷ count_one cmp rest y)) (order_above order x y h)

  -- a group below all values that follow stays in front
  fold-front : (x : V) (count : ℕ) (rest : List (V × ℕ)) (values : List V) → All (λ y. cmp x y ≡ Less) values →
      fold (count_one cmp) ((x, count) ∷ rest) values ≡ (x, count) ∷ fold (count_one cmp) rest values
  fold-front x count rest [] h = refl
  fold-front x count rest (y ∷ ys) h =
      ap (λ gs. fold (count_one cmp) gs ys) (count_one-behind y x count rest (All-head (λ z. cmp x z ≡ Less) y ys h))
      ∙ fold-front x count (count_one cmp rest y) ys (All-tail (λ z. cmp x z ≡ Less) y ys h)

  -- a run of values whose first was counted is counted correctly, by whether the next is equal
  counts_at : (same : V → V → Bool) (n : ℕ) (x y : V) (ys : List V) (b : Bool) → b ≡ is_eq (cmp x y) → NotAbove cmp x y → All (NotAbove cmp y) ys →
      ((m : ℕ) → fold (count_one cmp) ((x, m) ∷ []) ys ≡ map group_of_count (dedup_with_count_from same m x ys)) →
      fold (count_one cmp) ((y, 1) ∷ []) ys ≡ map group_of_count (dedup_with_count_from same 1 y ys) →
      fold (count_one cmp) (count_one cmp ((x, n) ∷ []) y) ys
      ≡ map group_of_count (cond b (dedup_with_count_from same (n + 1) x ys) ((n, x) ∷ dedup_with_count_from same 1 y ys))
  counts_at same n x y ys true e up rest one other =
      let tied : cmp y x ≡ Equal = tied_back order.total x y (is_equal (cmp x y) (sym e)) in
      ap (λ o. fold (count_one cmp) (match_ordering o ((y, 1) ∷ (x, n) ∷ []) ((x, n + 1) ∷ []) ((x, n) ∷ (y, 1) ∷ [])) ys) tied ∙ one (n + 1)
  counts_at same n x y ys false e up rest one other =
      let apart : cmp x y ≡ Less = above_other (cmp x y) x y refl up (sym e) in
      ap (λ gs. fold (count_one cmp) gs ys) (count_one-behind y x n [] apart)
      ∙ fold-front x n ((y, 1) ∷ []) ys (λ k d lt. below_all (cmp y (get_or ys k d)) x y (get_or ys k d) refl apart (rest k d lt))
      ∙ ap (λ gs. (x, n) ∷ gs) other

  counts_from : (same : V → V → Bool) → ((x y : V) → same x y ≡ is_eq (cmp x y)) → (n : ℕ) (x : V) (values : List V) → Rise cmp (x ∷ values) →
      fold (count_one cmp) ((x, n) ∷ []) values ≡ map group_of_count (dedup_with_count_from same n x values)
  counts_from same alike n x [] up = refl
  counts_from same alike n x (y ∷ ys) up =
      let behind = pairs_behind (NotAbove cmp) x (y ∷ ys) up in
      let first = pairs_front (NotAbove cmp) x (y ∷ ys) up in
      let rest = pairs_front (NotAbove cmp) y ys behind in
      let skip : Rise cmp (x ∷ ys) = AllPairs-cons (NotAbove cmp) x ys (All-tail (NotAbove cmp x) y ys first) (pairs_behind (NotAbove cmp) y ys behind) in
      counts_at same n x y ys (same x y) (alike x y) (All-head (NotAbove cmp x) y ys first) rest
      (λ m. counts_from same alike m x ys skip) (counts_from same alike 1 y ys behind)

  -- values in order are counted by runs
  counts-fold : (same : V → V → Bool) → ((x y : V) → same x y ≡ is_eq (cmp x y)) → (values : List V) → Rise cmp values →
      counts_of_sorted same values ≡ fold (count_one cmp) [] values
  counts-fold same alike [] up = refl
  counts-fold same alike (x ∷ values) up = sym (counts_from same alike 1 x values up)

  -- values that were sorted are in order
  Rise-sorted : (values : List V) → IsSorted cmp values → Rise cmp values
  Rise-sorted values sorted = λ i j d up lt.
      sorted_far (λ x y. is_lt (cmp x y)) (ranks_by order.total (λ (v : V). v)) values sorted i j d (omega (arith, up)) lt

  -- the counts do not depend on the order of the values
  counted-permuted : (values others : List V) → IsPermutation values others → fold (count_one cmp) [] values ≡ fold (count_one cmp) [] others
  counted-permuted values others is =
      let none : AllPairs (Below cmp) [] = pairs_none (Below cmp) in
      let empty : All (λ (g : V × ℕ). 0 < g.1) [] = All-nil (λ (g : V × ℕ). 0 < g.1) in
      one_list_of_groups order (fold (count_one cmp) [] values) (fold (count_one cmp) [] others)
      (rising-fold order [] values none) (positive-fold order [] values empty) (rising-fold order [] others none) (positive-fold order [] others empty)
      (λ n. omega (
        arith,
        count_in-fold order [] values n,
        count_in-fold order [] others n,
        sum_by-IsPermutation (λ m. cond (is_eq (cmp n m)) 1 0) values others is,
      ))

  -- values that were sorted are counted by runs
  pub counts-sorted : (same : V → V → Bool) → ((x y : V) → same x y ≡ is_eq (cmp x y)) → (values sorted : List V) → IsPermutation values sorted →
      IsSorted cmp sorted →
      counts_of_sorted same sorted ≡ fold (count_one cmp) [] values
  counts-sorted same alike values sorted is up =
      counts-fold same alike sorted (Rise-sorted sorted up) ∙ sym (counted-permuted values sorted is)
