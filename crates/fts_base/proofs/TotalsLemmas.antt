-- Counts in a list, sums over views, and properties of every view.
use Rattle.std.proofs.Common.{◌≡◌, ◌≢◌, ℕ, zero, suc, ◌+◌, ◌≤◌, List, [], ◌∷◌, ◌++◌, set, sym, refl, ap, subst, arith}
use Rattle.std.proofs.lemmas.Bool.Decides.{nat_tests}
use mathlib.Core.Option.{some, some-injective, some-ne-none}
use lib.ListN.{get_elem?}
use Rattle.fts_base.specs.Totals.{times, total}

pub times-append : (x : ℕ) (xs ys : List ℕ) → times x (xs ++ ys) ≡ times x xs + times x ys
times-append x [] ys = omega arith
times-append x (y ∷ xs) ys = let r = times-append x xs ys in omega arith

pub times_here : (x : ℕ) (xs : List ℕ) → times x (x ∷ xs) ≡ 1 + times x xs
times_here x xs = grind (arith, nat_tests)

pub times_else : (x y : ℕ) (xs : List ℕ) → x ≢ y → times x (y ∷ xs) ≡ times x xs
times_else x y xs ne = grind (arith, nat_tests)

module _ {V : Type 0} where
  -- the total after a change of one view
  pub total-set : (f : V → ℕ) (views : List V) (id : ℕ) (v w : V) → get_elem? views id ≡ some v → total f (set views id w) + f v ≡ total f views + f w
  total-set f [] id v w at = absurd (some-ne-none v (sym at))
  total-set f (x ∷ xs) zero v w at = let is : f x ≡ f v = ap f (some-injective x v at) in omega arith
  total-set f (x ∷ xs) (suc id) v w at = let r = total-set f xs id v w at in omega arith

  pub total-push : (f : V → ℕ) (views : List V) (v : V) → total f (views ++ v ∷ []) ≡ total f views + f v
  total-push f [] v = omega arith
  total-push f (x ∷ xs) v = let r = total-push f xs v in omega arith

  -- one view has no more than all together
  pub one_le : (f : V → ℕ) (views : List V) (id : ℕ) (v : V) → get_elem? views id ≡ some v → f v ≤ total f views
  one_le f [] id v at = absurd (some-ne-none v (sym at))
  one_le f (x ∷ xs) zero v at = let is : f x ≡ f v = ap f (some-injective x v at) in omega arith
  one_le f (x ∷ xs) (suc id) v at = let r = one_le f xs id v at in omega arith

  -- each view has a property
  abbrev pub Each : (V → Type 0) → List V → Type 0
  Each P views = (id : ℕ) (v : V) → get_elem? views id ≡ some v → P v

  pub each_set : (P : V → Type 0) (views : List V) (id : ℕ) (w : V) → Each P views → P w → Each P (set views id w)
  each_set P [] id w each here j u at = absurd (some-ne-none u (sym at))
  each_set P (x ∷ xs) zero w each here zero u at = subst P (some-injective w u at) here
  each_set P (x ∷ xs) zero w each here (suc j) u at = each (suc j) u at
  each_set P (x ∷ xs) (suc id) w each here zero u at = each 0 u at
  each_set P (x ∷ xs) (suc id) w each here (suc j) u at = each_set P xs id w (λ k v a. each (suc k) v a) here j u at

  pub each_push : (P : V → Type 0) (views : List V) (w : V) → Each P views → P w → Each P (views ++ w ∷ [])
  each_push P [] w each here zero u at = subst P (some-injective w u at) here
  each_push P [] w each here (suc j) u at = absurd (some-ne-none u (sym at))
  each_push P (x ∷ xs) w each here zero u at = each 0 u at
  each_push P (x ∷ xs) w each here (suc j) u at = each_push P xs w (λ k v a. each (suc k) v a) here j u at

  -- if a view without a share has nothing, and no view has a share, the total is zero
  none_left : (P : V → Type 0) (share f : V → ℕ) (idle : (v : V) → P v → share v ≡ 0 → f v ≡ 0) (views : List V) → Each P views → total share views ≡ 0 →
      total f views ≡ 0
  none_left P share f idle [] each none = refl
  none_left P share f idle (x ∷ xs) each none =
      let here = idle x (each 0 x refl) (omega arith) in
      let rest = none_left P share f idle xs (λ id v at. each (suc id) v at) (omega arith) in
      omega arith

  -- a view that has all shares has everything
  pub total-alone : (P : V → Type 0) (share f : V → ℕ) (idle : (v : V) → P v → share v ≡ 0 → f v ≡ 0) (spent : V) (blank : P spent)
      (shareless : share spent ≡ 0)
      (views : List V) (id : ℕ) (v : V) → Each P views → get_elem? views id ≡ some v → total share views ≡ share v → total f views ≡ f v
  total-alone P share f idle spent blank shareless views id v each at all =
      let shares = total-set share views id v spent at in
      let sum = total-set f views id v spent at in
      let nothing = idle spent blank shareless in
      let others = none_left P share f idle (set views id spent) (each_set P views id spent each blank) (omega arith) in
      omega arith
