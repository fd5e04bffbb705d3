-- Lists that rise by a number of their members, and lists sorted by stamp.
use Rattle.std.proofs.Common.{◌≡◌, ◌≢◌, ◌≤◌, ◌<◌, ℕ, Bool, true, false, cond, ◌==◌, List, [], ◌∷◌, ◌++◌, filter, subst, refl, sym, ap, ◌∙◌, arith, nat_le}
use Rattle.std.proofs.Common.{AllPairs}
use Rattle.std.specs.List.{AllByRecursion, sum_by}
use Rattle.std.specs.List.Sorted.{IsPermutation}
use Rattle.std.proofs.lemmas.List.Sums.{sum_by-cons}
use Rattle.std.proofs.lemmas.List.Elements.{All-from_recursion, recursion_from_All}
use Rattle.std.proofs.lemmas.List.Kept.{AllPairs-cons}
use Rattle.std.proofs.lemmas.List.Sorted.{sum_by-IsPermutation, IsPermutation-refl, IsPermutation-sym, IsPermutation-cons, IsPermutation-trans}
use Rattle.std.proofs.lemmas.List.Sorted.{IsPermutation-middle, Contains-permutation}
use Rattle.std.proofs.lemmas.Bool.Decides.{nat_tests}
use Rattle.fts_model.specs.declared.operation.Stamped.{Stamped}
use Rattle.fts_model.proofs.Lists.{pairs_behind, pairs_front, pairs_none, one_order}
use Rattle.fts_snapshots.specs.Order.{placed, in_stamp_order}

-- the numbers of the members rise
abbrev pub Rises : {X : Type 0} → (X → ℕ) → List X → Type 0
Rises rank [] = Unit
Rises rank (x ∷ xs) = AllByRecursion (λ y. rank x < rank y) xs × Rises rank xs

pub rises_from_pairs : {X : Type 0} (rank : X → ℕ) (xs : List X) → AllPairs (λ x y. rank x < rank y) xs → Rises rank xs
rises_from_pairs rank [] h = tt
rises_from_pairs rank (x ∷ xs) h = (
  recursion_from_All (λ y. rank x < rank y) xs (pairs_front (λ x y. rank x < rank y) x xs h),
  rises_from_pairs rank xs (pairs_behind (λ x y. rank x < rank y) x xs h),
)

pub pairs_from_rises : {X : Type 0} (rank : X → ℕ) (xs : List X) → Rises rank xs → AllPairs (λ x y. rank x < rank y) xs
pairs_from_rises rank [] h = pairs_none (λ x y. rank x < rank y)
pairs_from_rises rank (x ∷ xs) h =
    AllPairs-cons (λ x y. rank x < rank y) x xs (All-from_recursion (λ y. rank x < rank y) xs h.0) (pairs_from_rises rank xs h.1)

-- a property of each member holds of each that passes a filter
pub All-filtered : {X : Type 0} (P : X → Type 0) (p : X → Bool) (xs : List X) → AllByRecursion P xs → AllByRecursion P (filter p xs)
All-filtered P p [] a = tt
All-filtered P p (x ∷ xs) a =
    elim (p x) as (λ b. AllByRecursion P (cond b (x ∷ filter p xs) (filter p xs))) [ true ↦ (a.0, All-filtered P p xs a.1) | false ↦ All-filtered P p xs a.1 ]

pub All-weaker_by : {X : Type 0} (P Q : X → Type 0) → ((x : X) → P x → Q x) → (xs : List X) → AllByRecursion P xs → AllByRecursion Q xs
All-weaker_by P Q f [] ps = tt
All-weaker_by P Q f (x ∷ xs) ps = (f x ps.0, All-weaker_by P Q f xs ps.1)

pub All-joined : {X : Type 0} (P : X → Type 0) (xs ys : List X) → AllByRecursion P xs → AllByRecursion P ys → AllByRecursion P (xs ++ ys)
All-joined P [] ys a b = b
All-joined P (x ∷ xs) ys a b = (a.0, All-joined P xs ys a.1 b)

pub rises_filtered : {X : Type 0} (rank : X → ℕ) (p : X → Bool) (xs : List X) → Rises rank xs → Rises rank (filter p xs)
rises_filtered rank p [] r = tt
rises_filtered rank p (x ∷ xs) r =
    elim (p x) as (λ b. Rises rank (cond b (x ∷ filter p xs) (filter p xs)))
    [ true ↦ (All-filtered (λ y. rank x < rank y) p xs r.0, rises_filtered rank p xs r.1) | false ↦ rises_filtered rank p xs r.1 ]

-- rising members below a number, followed by rising ones that are not below it, rise
pub rises_joined : {X : Type 0} (rank : X → ℕ) (n : ℕ) (xs ys : List X) → Rises rank xs → AllByRecursion (λ x. rank x < n) xs → Rises rank ys →
    AllByRecursion (λ y. n ≤ rank y) ys →
    Rises rank (xs ++ ys)
rises_joined rank n [] ys r a s b = s
rises_joined rank n (x ∷ xs) ys r a s b = (
  All-joined (λ y. rank x < rank y) xs ys r.0 (All-weaker_by (λ y. n ≤ rank y) (λ y. rank x < rank y) (λ y h. omega (arith, h, a.0)) ys b),
  rises_joined rank n xs ys r.1 a.1 s b,
)

-- the stamps rise
abbrev pub ByStamp : {X : Type 0} → List (Stamped X) → Type 0
ByStamp {X} xs = Rises (λ (x : Stamped X). x.stamp) xs

-- no stamp is below those before it
abbrev pub IsOrdered : {X : Type 0} → List (Stamped X) → Type 0
IsOrdered [] = Unit
IsOrdered (x ∷ xs) = AllByRecursion (λ y. x.stamp ≤ y.stamp) xs × IsOrdered xs

All-placed : {X : Type 0} (P : Stamped X → Type 0) (x : Stamped X) (ys : List (Stamped X)) → P x → AllByRecursion P ys → AllByRecursion P (placed x ys)
All-placed P x [] p ps = (p, tt)
All-placed P x (y ∷ ys) p ps =
    elim (nat_le x.stamp y.stamp) as (λ b. AllByRecursion P (cond b (x ∷ y ∷ ys) (y ∷ placed x ys)))
    [ true ↦ (p, ps) | false ↦ (ps.0, All-placed P x ys p ps.1) ]

permutation_placed : {X : Type 0} (x : Stamped X) (ys : List (Stamped X)) → IsPermutation (x ∷ ys) (placed x ys)
permutation_placed x [] = IsPermutation-refl (x ∷ [])
permutation_placed x (y ∷ ys) =
    elim (nat_le x.stamp y.stamp) as (λ b. IsPermutation (x ∷ y ∷ ys) (cond b (x ∷ y ∷ ys) (y ∷ placed x ys))) [
      | true ↦ IsPermutation-refl (x ∷ y ∷ ys)
      | false ↦ IsPermutation-trans (x ∷ y ∷ ys) (y ∷ x ∷ ys) (y ∷ placed x ys) (IsPermutation-middle (x ∷ []) y ys)
          (IsPermutation-cons y (x ∷ ys) (placed x ys) (permutation_placed x ys))
    ]

pub permutation_in_order : {X : Type 0} (xs : List (Stamped X)) → IsPermutation xs (in_stamp_order xs)
permutation_in_order [] = IsPermutation-refl []
permutation_in_order (x ∷ xs) =
    IsPermutation-trans (x ∷ xs) (x ∷ in_stamp_order xs) (placed x (in_stamp_order xs)) (IsPermutation-cons x xs (in_stamp_order xs) (permutation_in_order xs))
    (permutation_placed x (in_stamp_order xs))

ordered_placed : {X : Type 0} (x : Stamped X) (ys : List (Stamped X)) → IsOrdered ys → IsOrdered (placed x ys)
ordered_placed x [] o = (tt, tt)
ordered_placed x (y ∷ ys) o =
    elim (nat_le x.stamp y.stamp) as (λ b. nat_le x.stamp y.stamp ≡ b → IsOrdered (cond b (x ∷ y ∷ ys) (y ∷ placed x ys))) [
      | true ↦ λ e. ((grind (arith, nat_tests), All-weaker_by (λ z. y.stamp ≤ z.stamp) (λ z. x.stamp ≤ z.stamp) (λ z h. grind (arith, nat_tests)) ys o.0), o)
      | false ↦ λ e. (All-placed (λ z. y.stamp ≤ z.stamp) x ys (grind (arith, nat_tests)) o.0, ordered_placed x ys o.1)
    ] refl

ordered_in_order : {X : Type 0} (xs : List (Stamped X)) → IsOrdered (in_stamp_order xs)
ordered_in_order [] = tt
ordered_in_order (x ∷ xs) = ordered_placed x (in_stamp_order xs) (ordered_in_order xs)

-- 1 if the stamp is n, and otherwise 0
abbrev at_stamp : {X : Type 0} → ℕ → Stamped X → ℕ
at_stamp n x = cond (x.stamp == n) 1 0

-- no stamp occurs twice
abbrev IsOnce : {X : Type 0} → List (Stamped X) → Type 0
IsOnce {X} xs = (n : ℕ) → sum_by (at_stamp {X = X} n) xs ≤ 1

none_above : {X : Type 0} (n : ℕ) (xs : List (Stamped X)) → AllByRecursion (λ y. n < y.stamp) xs → sum_by (at_stamp n) xs ≡ 0
none_above n [] a = refl
none_above {X} n (x ∷ xs) a =
    let front : at_stamp n x ≡ 0 = grind (arith, nat_tests) in
    let behind = none_above n xs a.1 in
    omega (arith, front, behind, sum_by-cons (at_stamp {X = X} n) x xs)

once_from_rises : {X : Type 0} (xs : List (Stamped X)) → ByStamp xs → IsOnce xs
once_from_rises [] r n = omega arith
once_from_rises {X} (x ∷ xs) r n =
    let rest = once_from_rises xs r.1 n in
    elim (x.stamp == n) as (λ b. (x.stamp == n) ≡ b → sum_by (at_stamp {X = X} n) (x ∷ xs) ≤ 1) [
      | true ↦ λ e. let same : x.stamp ≡ n = grind (arith, nat_tests) in
          let none = none_above n xs (subst (λ m. AllByRecursion (λ (y : Stamped X). m < y.stamp) xs) same r.0) in
          let one : at_stamp n x ≡ 1 = ap (λ b. cond b 1 0) e in
          omega (arith, one, none, sum_by-cons (at_stamp {X = X} n) x xs)
      | false ↦ λ e. let none : at_stamp n x ≡ 0 = ap (λ b. cond b 1 0) e in omega (arith, none, rest, sum_by-cons (at_stamp {X = X} n) x xs)
    ] refl

once_tail : {X : Type 0} (x : Stamped X) (xs : List (Stamped X)) → IsOnce (x ∷ xs) → IsOnce xs
once_tail {X} x xs o n = omega (arith, o n, sum_by-cons (at_stamp {X = X} n) x xs)

others : {X : Type 0} (n : ℕ) (xs : List (Stamped X)) → sum_by (at_stamp n) xs ≤ 0 → AllByRecursion (λ y. n ≢ y.stamp) xs
others n [] h = tt
others {X} n (x ∷ xs) h =
    let rest : sum_by (at_stamp n) xs ≤ 0 = omega (arith, h, sum_by-cons (at_stamp {X = X} n) x xs) in
    let front : at_stamp n x ≡ 0 = omega (arith, h, sum_by-cons (at_stamp {X = X} n) x xs) in
    ((λ e. grind (arith, nat_tests)), others n xs rest)

both_hold : {X : Type 0} (n : ℕ) (xs : List (Stamped X)) → AllByRecursion (λ y. n ≤ y.stamp) xs → AllByRecursion (λ y. n ≢ y.stamp) xs →
    AllByRecursion (λ y. n < y.stamp) xs
both_hold n [] a b = tt
both_hold n (x ∷ xs) a b = (grind (arith, a.0, b.0), both_hold n xs a.1 b.1)

rises_from : {X : Type 0} (xs : List (Stamped X)) → IsOrdered xs → IsOnce xs → ByStamp xs
rises_from [] o once = tt
rises_from {X} (x ∷ xs) o once =
    let one : at_stamp x.stamp x ≡ 1 = grind (arith, nat_tests) in
    let none : sum_by (at_stamp x.stamp) xs ≤ 0 = omega (arith, once x.stamp, one, sum_by-cons (at_stamp {X = X} x.stamp) x xs) in
    (both_hold x.stamp xs o.0 (others x.stamp xs none), rises_from xs o.1 (once_tail x xs once))

once_moved : {X : Type 0} (xs ys : List (Stamped X)) → IsPermutation xs ys → IsOnce xs → IsOnce ys
once_moved {X} xs ys p o n = omega (arith, o n, sum_by-IsPermutation (at_stamp {X = X} n) xs ys p)

-- a list whose stamps differ, sorted, equals any permutation of it, sorted
pub in_stamp_order-permutation : {X : Type 0} (xs ys : List (Stamped X)) → ByStamp (in_stamp_order xs) → IsPermutation xs ys →
    in_stamp_order ys ≡ in_stamp_order xs
in_stamp_order-permutation {X} xs ys r p =
    let a = permutation_in_order xs in
    let b = permutation_in_order ys in
    let moved = IsPermutation-trans (in_stamp_order xs) xs (in_stamp_order ys) (IsPermutation-sym xs (in_stamp_order xs) a)
    (IsPermutation-trans xs ys (in_stamp_order ys) p b) in
    let rising = rises_from (in_stamp_order ys) (ordered_in_order ys) (once_moved (in_stamp_order xs) (in_stamp_order ys) moved
    (once_from_rises (in_stamp_order xs) r)) in
    let stamp : Stamped X → ℕ = λ x. x.stamp in
    one_order (λ x y. x.stamp < y.stamp) (λ x y p q. omega (arith, p, q)) (in_stamp_order ys) (in_stamp_order xs)
    (pairs_from_rises stamp (in_stamp_order ys) rising) (pairs_from_rises stamp (in_stamp_order xs) r)
    (λ z c. Contains-permutation (in_stamp_order ys) (in_stamp_order xs) z (IsPermutation-sym (in_stamp_order xs) (in_stamp_order ys) moved) c)
    (λ z c. Contains-permutation (in_stamp_order xs) (in_stamp_order ys) z moved c)

placed_front : {X : Type 0} (x : Stamped X) (ys : List (Stamped X)) → AllByRecursion (λ y. x.stamp ≤ y.stamp) ys → placed x ys ≡ x ∷ ys
placed_front x [] a = refl
placed_front x (y ∷ ys) a = let e : nat_le x.stamp y.stamp ≡ true = grind (arith, nat_tests) in ap (λ b. cond b (x ∷ y ∷ ys) (y ∷ placed x ys)) e

ordered_stays : {X : Type 0} (xs : List (Stamped X)) → IsOrdered xs → in_stamp_order xs ≡ xs
ordered_stays [] o = refl
ordered_stays (x ∷ xs) o = ap (placed x) (ordered_stays xs o.1) ∙ placed_front x xs o.0

ordered_from_rises : {X : Type 0} (xs : List (Stamped X)) → ByStamp xs → IsOrdered xs
ordered_from_rises [] r = tt
ordered_from_rises (x ∷ xs) r = (All-weaker_by (λ y. x.stamp < y.stamp) (λ y. x.stamp ≤ y.stamp) (λ y h. omega arith) xs r.0, ordered_from_rises xs r.1)

-- a list that rises is sorted
pub in_stamp_order-rises : {X : Type 0} (xs : List (Stamped X)) → ByStamp xs → in_stamp_order xs ≡ xs
in_stamp_order-rises xs r = ordered_stays xs (ordered_from_rises xs r)

pushed_through : {X : Type 0} (b c : Bool) (x y : Stamped X) (zs : List (Stamped X)) → nat_le x.stamp y.stamp ≡ false →
    cond c (y ∷ cond b (placed x zs) zs) (cond b (placed x zs) zs) ≡ cond b (placed x (cond c (y ∷ zs) zs)) (cond c (y ∷ zs) zs)
pushed_through true true x y zs e = ap (λ b. cond b (x ∷ y ∷ zs) (y ∷ placed x zs)) (sym e)
pushed_through true false x y zs e = refl
pushed_through false true x y zs e = refl
pushed_through false false x y zs e = refl

filter_placed : {X : Type 0} (p : Stamped X → Bool) (x : Stamped X) (ys : List (Stamped X)) → IsOrdered ys →
    filter p (placed x ys) ≡ cond (p x) (placed x (filter p ys)) (filter p ys)
filter_placed p x [] o = refl
filter_placed {X} p x (y ∷ ys) o =
    elim (nat_le x.stamp y.stamp) as (λ b. nat_le x.stamp y.stamp ≡ b → filter p (cond b (x ∷ y ∷ ys) (y ∷ placed x ys))
    ≡ cond (p x) (placed x (filter p (y ∷ ys))) (filter p (y ∷ ys))) [
      | true ↦ λ e.
          let all : AllByRecursion (λ (z : Stamped X). x.stamp ≤ z.stamp) (y ∷ ys) =
          (grind (arith, nat_tests), All-weaker_by (λ z. y.stamp ≤ z.stamp) (λ z. x.stamp ≤ z.stamp) (λ z h. grind (arith, nat_tests)) ys o.0) in
          ap (λ zs. cond (p x) zs (filter p (y ∷ ys))) (sym (placed_front x (filter p (y ∷ ys)) (All-filtered (λ z. x.stamp ≤ z.stamp) p (y ∷ ys) all)))
      | false ↦ λ e. ap (λ zs. cond (p y) (y ∷ zs) zs) (filter_placed p x ys o.1) ∙ pushed_through (p x) (p y) x y (filter p ys) e
    ] refl

chosen : {X : Type 0} (b : Bool) (x : Stamped X) (xs : List (Stamped X)) → cond b (placed x (in_stamp_order xs)) (in_stamp_order xs)
    ≡ in_stamp_order (cond b (x ∷ xs) xs)
chosen true x xs = refl
chosen false x xs = refl

-- filtering a sorted list is sorting the filtered list
pub filter-in_stamp_order : {X : Type 0} (p : Stamped X → Bool) (xs : List (Stamped X)) → filter p (in_stamp_order xs) ≡ in_stamp_order (filter p xs)
filter-in_stamp_order p [] = refl
filter-in_stamp_order p (x ∷ xs) =
    filter_placed p x (in_stamp_order xs) (ordered_in_order xs)
    ∙ ap (λ ys. cond (p x) (placed x ys) ys) (filter-in_stamp_order p xs)
    ∙ chosen (p x) x (filter p xs)
