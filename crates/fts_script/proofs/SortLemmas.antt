-- A list in an order: a permutation that is in order is the sorted list.
use Rattle.std.proofs.Common.{◌≡◌, ◌+◌, ◌<◌, ◌≤◌, ◌&&◌, ℕ, suc, Bool, true, false, cond, not, List, [], ◌∷◌, length, get_or, refl, sym, ap, ap₂, subst, ◌∙◌, arith, All}
use Rattle.std.proofs.Common.{nat_cmp, is_lt}
use Rattle.std.specs.Cmp.{IsStrictWeakOrder, IsTotalOrder}
use Rattle.std.specs.FinMap.{nat_cmp-IsAntisymmetric}
use Rattle.std.specs.List.{sum_by}
use Rattle.std.specs.List.Sorted.{IsPermutation, IsSortedBy}
use Rattle.std.specs.Ordering.{ordering_reverse, ordering_then}
use Rattle.std.specs.declared.cmp.Ordering.{Ordering}
use Rattle.std.specs.declared.cmp.Ordering.TheVariants.{Less, Equal, Greater}
use Rattle.std.proofs.lemmas.Cmp.{back_total, nat_cmp_total, on_total, then_total}
use Rattle.std.proofs.lemmas.List.Elements.{All-nil, All-cons, All-head, All-tail, All-weaker}
use Rattle.std.proofs.lemmas.List.Sorted.{IsPermutation-refl, IsPermutation-cons, IsPermutation-trans, IsPermutation-middle, sum_by-IsPermutation, ranks_by}
use Rattle.std.proofs.lemmas.List.Sums.{sum_by-cons}
use Rattle.fts_model.specs.declared.value.GroupValue.{GroupValue}
use Rattle.fts_model.specs.Answers.{group_cmp}
use Rattle.fts_scan.proofs.AnswersOrder.{group_order}
use Rattle.fts_script.specs.command.MostFrequent.{frequency_cmp, insert_by, sort_by}

-- not equal either way is false
not_both : (a : Bool) → (a ≡ true → a ≡ false) → a ≡ false
not_both true h = h refl
not_both false h = refl

module _ {X : Type 0} (less : X → X → Bool) (weak : IsStrictWeakOrder less) (tied : (x y : X) → less x y ≡ false → less y x ≡ false → x ≡ y) where
  -- one doesn't come after another
  abbrev NotAfter : X → X → Type 0
  NotAfter x y = less y x ≡ false

  abbrev IsOrdered : List X → Type 0
  IsOrdered [] = Unit {0}
  IsOrdered (x ∷ xs) = All (NotAfter x) xs × IsOrdered xs

  not_itself : (x : X) → less x x ≡ false
  not_itself x = not_both (less x x) (weak.one_way x x)

  chained : (x y : X) (ys : List X) → NotAfter x y → All (NotAfter y) ys → All (NotAfter x) ys
  chained x y ys first behind = All-weaker (NotAfter y) (NotAfter x) (λ z h. weak.chain z y x h first) ys behind

  All-inserted : (P : X → Type 0) (x : X) (ys : List X) → P x → All P ys → All P (insert_by less x ys)
  All-inserted P x [] p ps = All-cons P x [] p ps
  All-inserted P x (y ∷ ys) p ps =
      elim (less x y) as (λ b. All P (cond b (x ∷ y ∷ ys) (y ∷ insert_by less x ys))) [
        | true ↦ All-cons P x (y ∷ ys) p ps
        | false ↦ All-cons P y (insert_by less x ys) (All-head P y ys ps) (All-inserted P x ys p (All-tail P y ys ps))
      ]

  IsOrdered-inserted : (x : X) (ys : List X) → IsOrdered ys → IsOrdered (insert_by less x ys)
  IsOrdered-inserted x [] o = (All-nil (NotAfter x), tt)
  IsOrdered-inserted x (y ∷ ys) o =
      elim (less x y) as (λ b. less x y ≡ b → IsOrdered (cond b (x ∷ y ∷ ys) (y ∷ insert_by less x ys))) [
        | true ↦ λ is. let first : NotAfter x y = weak.one_way x y is in (All-cons (NotAfter x) y ys first (chained x y ys first o.0), o)
        | false ↦ λ is. (All-inserted (NotAfter y) x ys is o.0, IsOrdered-inserted x ys o.1)
      ] refl

  IsOrdered-sorted : (xs : List X) → IsOrdered (sort_by less xs)
  IsOrdered-sorted [] = tt
  IsOrdered-sorted (x ∷ xs) = IsOrdered-inserted x (sort_by less xs) (IsOrdered-sorted xs)

  IsPermutation-inserted : (x : X) (ys : List X) → IsPermutation (x ∷ ys) (insert_by less x ys)
  IsPermutation-inserted x [] = IsPermutation-refl (x ∷ [])
  IsPermutation-inserted x (y ∷ ys) =
      elim (less x y) as (λ b. IsPermutation (x ∷ y ∷ ys) (cond b (x ∷ y ∷ ys) (y ∷ insert_by less x ys))) [
        | true ↦ IsPermutation-refl (x ∷ y ∷ ys)
        | false ↦ IsPermutation-trans (x ∷ y ∷ ys) (y ∷ x ∷ ys) (y ∷ insert_by less x ys) (IsPermutation-middle (x ∷ []) y ys)
            (IsPermutation-cons y (x ∷ ys) (insert_by less x ys) (IsPermutation-inserted x ys))
      ]

  IsPermutation-sorted : (xs : List X) → IsPermutation xs (sort_by less xs)
  IsPermutation-sorted [] = IsPermutation-refl []
  IsPermutation-sorted (x ∷ xs) =
      IsPermutation-trans (x ∷ xs) (x ∷ sort_by less xs) (insert_by less x (sort_by less xs))
      (IsPermutation-cons x xs (sort_by less xs) (IsPermutation-sorted xs)) (IsPermutation-inserted x (sort_by less xs))

  -- two members are equal
  abbrev is_same : X → X → Bool
  is_same x y = not (less x y) && not (less y x)

  same_itself : (x : X) → is_same x x ≡ true
  same_itself x = ap (λ b. not b && not b) (not_itself x)

  same_is : (x y : X) → is_same x y ≡ true → x ≡ y
  same_is x y h = tied x y (grind (arith, h)) (grind (arith, h))

  -- 1 if a member is this one, and otherwise 0
  abbrev once : X → X → ℕ
  once x y = cond (is_same x y) 1 0

  -- a property of all holds of one that occurs
  occurs : (P : X → Type 0) (x : X) (ys : List X) → All P ys → 1 ≤ sum_by (once x) ys → P x
  occurs P x [] ps more = absurd (omega (arith, more))
  occurs P x (y ∷ ys) ps more =
      elim (is_same x y) as (λ b. is_same x y ≡ b → P x) [
        | true ↦ λ is. subst P (sym (same_is x y is)) (All-head P y ys ps)
        | false ↦ λ is. let none : once x y ≡ 0 = ap (λ b. cond b 1 0) is in
            occurs P x ys (All-tail P y ys ps) (omega (arith, more, none, sum_by-cons (once x) y ys))
      ] refl

  -- ordered lists that have the same members as often are equal
  one_order : (xs ys : List X) → IsOrdered xs → IsOrdered ys → ((z : X) → sum_by (once z) xs ≡ sum_by (once z) ys) → xs ≡ ys
  one_order [] [] o p same = refl
  one_order [] (y ∷ ys) o p same =
      let one : once y y ≡ 1 = ap (λ b. cond b 1 0) (same_itself y) in
      let none : sum_by (once y) (y ∷ ys) ≡ 0 = sym (same y) in absurd (omega (arith, none, one, sum_by-cons (once y) y ys))
  one_order (x ∷ xs) [] o p same =
      let one : once x x ≡ 1 = ap (λ b. cond b 1 0) (same_itself x) in
      let none : sum_by (once x) (x ∷ xs) ≡ 0 = same x in absurd (omega (arith, none, one, sum_by-cons (once x) x xs))
  one_order (x ∷ xs) (y ∷ ys) o p same =
      let one : once x x ≡ 1 = ap (λ b. cond b 1 0) (same_itself x) in
      let other : once y y ≡ 1 = ap (λ b. cond b 1 0) (same_itself y) in
      let down : NotAfter y x = occurs (NotAfter y) x (y ∷ ys) (All-cons (NotAfter y) y ys (not_itself y) p.0)
      (omega (arith, same x, one, sum_by-cons (once x) x xs)) in
      let up : NotAfter x y = occurs (NotAfter x) y (x ∷ xs) (All-cons (NotAfter x) x xs (not_itself x) o.0)
      (omega (arith, same y, other, sum_by-cons (once y) y ys)) in
      let is : x ≡ y = tied x y down up in
      let rest = one_order xs ys o.1 p.1 (λ z. omega (arith, same z, ap (once z) is, sum_by-cons (once z) x xs, sum_by-cons (once z) y ys)) in
      ap₂ (λ z zs. z ∷ zs) is rest

  -- a list whose neighbours are in order is ordered
  ordered_from : (xs : List X) → ((k : ℕ) (d : X) → k + 1 < length xs → NotAfter (get_or xs k d) (get_or xs (k + 1) d)) → IsOrdered xs
  ordered_from [] h = tt
  ordered_from (x ∷ []) h = (All-nil (NotAfter x), tt)
  ordered_from (x ∷ y ∷ xs) h =
      let first : NotAfter x y = h 0 x (omega arith) in
      let rest = ordered_from (y ∷ xs) (λ k e within.
      let next : suc k + 1 ≡ suc (k + 1) = omega arith in
      let P : ℕ → Type 0 = λ n. NotAfter (get_or (y ∷ xs) k e) (get_or (x ∷ y ∷ xs) n e) in
      subst P next (h (suc k) e (omega (arith, within)))) in
      (All-cons (NotAfter x) y xs first (chained x y xs first rest.0), rest)

  -- a permutation that is in order is the sorted list
  pub sorted-is : (xs ys : List X) → IsPermutation xs ys → IsSortedBy less ys → ys ≡ sort_by less xs
  sorted-is xs ys moved sorted =
      one_order ys (sort_by less xs) (ordered_from ys (λ k d within. sorted k d (omega arith) within)) (IsOrdered-sorted xs)
      (λ z. sum_by-IsPermutation (once z) xs ys moved ∙ sym (sum_by-IsPermutation (once z) xs (sort_by less xs) (IsPermutation-sorted xs)))

-- the order of groups by their counts, and then by their values
pub frequency_total : IsTotalOrder frequency_cmp
frequency_total = then_total (back_total (on_total (λ (g : GroupValue × ℕ). g.1) nat_cmp_total)) (on_total (λ (g : GroupValue × ℕ). g.0) group_order.total)

both_equal : (o p : Ordering) → ordering_then o p ≡ Equal → (o ≡ Equal) × (p ≡ Equal)
both_equal Less p h = cc
both_equal Equal p h = (refl, h)
both_equal Greater p h = cc

-- an ordering that is less neither way is equal
not_less : (o p : Ordering) → o ≡ ordering_reverse p → is_lt o ≡ false → is_lt p ≡ false → o ≡ Equal
not_less Less p e h l = cc
not_less Equal p e h l = refl
not_less Greater Less e h l = cc
not_less Greater Equal e h l = cc
not_less Greater Greater e h l = cc

abbrev pub is_ahead : GroupValue × ℕ → GroupValue × ℕ → Bool
is_ahead a b = is_lt (frequency_cmp a b)

pub frequency_weak : IsStrictWeakOrder is_ahead
frequency_weak = ranks_by frequency_total (λ (g : GroupValue × ℕ). g)

pub frequency_tied : (a b : GroupValue × ℕ) → is_ahead a b ≡ false → is_ahead b a ≡ false → a ≡ b
frequency_tied a b h l =
    let both = both_equal (nat_cmp b.1 a.1) (group_cmp a.0 b.0) (not_less (frequency_cmp a b) (frequency_cmp b a) (frequency_total.antisymm a b) h l) in
    ap₂ (λ (v : GroupValue) (n : ℕ). (v, n)) (group_order.same a.0 b.0 both.1) (sym (nat_cmp-IsAntisymmetric b.1 a.1 both.0))
