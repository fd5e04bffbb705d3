-- Values counted in an order: each as often as it occurs, and only one list has such counts.
use Rattle.std.proofs.Common.{◌≡◌, ℕ, ◌+◌, ◌<◌, Bool, true, false, cond, List, [], ◌∷◌, length, refl, sym, ap, subst, ◌∙◌, ⊎_elim, arith, All, AllPairs}
use Rattle.std.proofs.Common.{Contains, fold, count_by}
use Rattle.std.specs.Cmp.{IsTotalOrder}
use Rattle.std.specs.FinMap.{IsAntisymmetric, nat_cmp-IsAntisymmetric}
use Rattle.std.specs.Ordering.{match_ordering, is_eq, nat_cmp, ordering_reverse}
use Rattle.std.specs.declared.cmp.Ordering.{Ordering}
use Rattle.std.specs.declared.cmp.Ordering.TheVariants.{Less, Equal, Greater}
use Rattle.std.proofs.lemmas.Cmp.{nat_cmp_total, tied_itself}
use Rattle.std.proofs.lemmas.List.Elements.{All-nil, All-cons, All-head, All-tail, All-contains}
use Rattle.std.proofs.lemmas.List.Kept.{AllPairs-cons}
use Rattle.std.proofs.lemmas.List.Sums.{sum_by-cons}
use Rattle.fts_model.specs.Answers.{count_one}
use Rattle.fts_model.proofs.Lists.{pairs_behind, pairs_front, pairs_none, Contains-cases, Contains-first, Contains-behind, Contains-none, one_order}
use Rattle.fts_scan.specs.Scans.{hits_counted}

-- an order in which values that compare as equal are equal
pub record IsOneOrder {V : Type 0} (cmp : V → V → Ordering) : Type 0 where
  pub total : IsTotalOrder cmp
  pub same : IsAntisymmetric cmp

-- the count of a value
abbrev pub count_in : {V : Type 0} → (V → V → Ordering) → List (V × ℕ) → V → ℕ
count_in cmp [] n = 0
count_in cmp (group ∷ others) n = cond (is_eq (cmp n group.0)) group.1 0 + count_in cmp others n

-- the value of one group is below that of another
abbrev pub Below : {V : Type 0} → (V → V → Ordering) → V × ℕ → V × ℕ → Type 0
Below cmp a b = cmp a.0 b.0 ≡ Less

module _ {V : Type 0} {cmp : V → V → Ordering} (order : IsOneOrder cmp) where
  -- if one value is below another, the other is above it
  pub order_above : (x y : V) → cmp x y ≡ Less → cmp y x ≡ Greater
  order_above x y h = order.total.antisymm y x ∙ ap ordering_reverse h

  -- if one value is above another, the other is below it
  pub order_below : (x y : V) → cmp x y ≡ Greater → cmp y x ≡ Less
  order_below x y h = order.total.antisymm y x ∙ ap ordering_reverse h

  -- one more hit of a group, if it is that group
  one_more : (b : Bool) (n : ℕ) → cond b (n + 1) 0 ≡ cond b n 0 + cond b 1 0
  one_more true n = refl
  one_more false n = refl

  -- one more hit changes only the count of its value, by the order of the value and the first group's
  counted_at : (o : Ordering) (group : V × ℕ) (others : List (V × ℕ)) (m n : V) → cmp m group.0 ≡ o →
      count_in cmp (count_one cmp others m) n ≡ count_in cmp others n + cond (is_eq (cmp n m)) 1 0 →
      count_in cmp (match_ordering o ((m, 1) ∷ group ∷ others) ((group.0, group.1 + 1) ∷ others) (group ∷ count_one cmp others m)) n
      ≡ count_in cmp (group ∷ others) n + cond (is_eq (cmp n m)) 1 0
  counted_at Less group others m n e rest = omega arith
  counted_at Equal group others m n e rest =
      let same = ap {B = ℕ} (λ x. cond (is_eq (cmp n x)) 1 0) (order.same m group.0 e) in
      let more = one_more (is_eq (cmp n group.0)) group.1 in
      omega (arith, same, more)
  counted_at Greater group others m n e rest = omega (arith, rest)

  -- one more hit changes only the count of its value
  count_in-one : (others : List (V × ℕ)) (m n : V) → count_in cmp (count_one cmp others m) n ≡ count_in cmp others n + cond (is_eq (cmp n m)) 1 0
  count_in-one [] m n = omega arith
  count_in-one (group ∷ others) m n = counted_at (cmp m group.0) group others m n refl (count_in-one others m n)

  -- each value is counted as often as it occurs
  pub count_in-fold : (others : List (V × ℕ)) (ms : List V) (n : V) →
      count_in cmp (fold (count_one cmp) others ms) n ≡ count_in cmp others n + count_by (λ m. is_eq (cmp n m)) ms
  count_in-fold others [] n = omega arith
  count_in-fold others (m ∷ ms) n =
      omega (arith, count_in-fold (count_one cmp others m) ms n, count_in-one others m n, sum_by-cons (λ m. cond (is_eq (cmp n m)) 1 0) m ms)

  -- a property of the groups holds with one more hit, by the order of its value and the first group's
  all_at : (P : V × ℕ → Type 0) (o : Ordering) (group : V × ℕ) (others : List (V × ℕ)) (m : V) → ((g : V × ℕ) → P g → P (g.0, g.1 + 1)) →
      P (m, 1) → P group → All P others → All P (count_one cmp others m) →
      All P (match_ordering o ((m, 1) ∷ group ∷ others) ((group.0, group.1 + 1) ∷ others) (group ∷ count_one cmp others m))
  all_at P Less group others m more p here behind rest = All-cons P (m, 1) (group ∷ others) p (All-cons P group others here behind)
  all_at P Equal group others m more p here behind rest = All-cons P (group.0, group.1 + 1) others (more group here) behind
  all_at P Greater group others m more p here behind rest = All-cons P group (count_one cmp others m) here rest

  -- a property of the groups holds with one more hit
  pub All-count_one : (P : V × ℕ → Type 0) (others : List (V × ℕ)) (m : V) → ((g : V × ℕ) → P g → P (g.0, g.1 + 1)) →
      P (m, 1) → All P others → All P (count_one cmp others m)
  All-count_one P [] m more p ps = All-cons P (m, 1) [] p (All-nil P)
  All-count_one P (group ∷ others) m more p ps =
      let behind = All-tail P group others ps in
      all_at P (cmp m group.0) group others m more p (All-head P group others ps) behind (All-count_one P others m more p behind)

  -- rising groups rise with one more hit, by the order of its value and the first group's
  rising_at : (o : Ordering) (group : V × ℕ) (others : List (V × ℕ)) (m : V) → cmp m group.0 ≡ o →
      AllPairs (Below cmp) (group ∷ others) → AllPairs (Below cmp) (count_one cmp others m) →
      AllPairs (Below cmp) (match_ordering o ((m, 1) ∷ group ∷ others) ((group.0, group.1 + 1) ∷ others) (group ∷ count_one cmp others m))
  rising_at Less group others m e rising rest =
      AllPairs-cons (Below cmp) (m, 1) (group ∷ others)
      (All-cons (Below cmp (m, 1)) group others e (λ k d lt. order.total.trans m group.0 _ e (pairs_front (Below cmp) group others rising k d lt))) rising
  rising_at Equal group others m e rising rest =
      AllPairs-cons (Below cmp) (group.0, group.1 + 1) others (pairs_front (Below cmp) group others rising) (pairs_behind (Below cmp) group others rising)
  rising_at Greater group others m e rising rest =
      AllPairs-cons (Below cmp) group (count_one cmp others m)
      (All-count_one (Below cmp group) others m (λ g p. p) (order_below m group.0 e) (pairs_front (Below cmp) group others rising)) rest

  -- rising groups rise with one more hit
  rising-count_one : (others : List (V × ℕ)) (m : V) → AllPairs (Below cmp) others → AllPairs (Below cmp) (count_one cmp others m)
  rising-count_one [] m rising = AllPairs-cons (Below cmp) (m, 1) [] (All-nil (Below cmp (m, 1))) (pairs_none (Below cmp))
  rising-count_one (group ∷ others) m rising =
      rising_at (cmp m group.0) group others m refl rising (rising-count_one others m (pairs_behind (Below cmp) group others rising))

  -- rising groups rise with several more hits
  pub rising-fold : (others : List (V × ℕ)) (ms : List V) → AllPairs (Below cmp) others → AllPairs (Below cmp) (fold (count_one cmp) others ms)
  rising-fold others [] rising = rising
  rising-fold others (m ∷ ms) rising = rising-fold (count_one cmp others m) ms (rising-count_one others m rising)

  -- no group has a count of 0
  pub positive-fold : (others : List (V × ℕ)) (ms : List V) → All (λ g. 0 < g.1) others → All (λ g. 0 < g.1) (fold (count_one cmp) others ms)
  positive-fold others [] ps = ps
  positive-fold others (m ∷ ms) ps = positive-fold (count_one cmp others m) ms (All-count_one (λ g. 0 < g.1) others m (λ g p. omega arith) (omega arith) ps)

  -- a value below all groups has a count of 0
  pub count_in-none : (others : List (V × ℕ)) (n : V) → All (λ g. cmp n g.0 ≡ Less) others → count_in cmp others n ≡ 0
  count_in-none [] n above = refl
  count_in-none (group ∷ others) n above =
      let P : V × ℕ → Type 0 = λ g. cmp n g.0 ≡ Less in
      let here = ap {B = ℕ} (λ o. cond (is_eq o) group.1 0) (All-head P group others above) in
      omega (arith, here, count_in-none others n (All-tail P group others above))

  -- the value of the first group has that group's count
  count_in-here : (group : V × ℕ) (others : List (V × ℕ)) (n : V) → n ≡ group.0 → AllPairs (Below cmp) (group ∷ others) →
      count_in cmp (group ∷ others) n ≡ group.1
  count_in-here group others n same rising =
      let equal : cmp n group.0 ≡ Equal = ap (λ x. cmp x group.0) same ∙ tied_itself order.total group.0 in
      let here = ap {B = ℕ} (λ o. cond (is_eq o) group.1 0) equal in
      let none = ap (count_in cmp others) same ∙ count_in-none others group.0 (pairs_front (Below cmp) group others rising) in
      omega (arith, here, none)

  -- a group of the list has the count of its value
  pub count_in-at : (list : List (V × ℕ)) (n : V) (count : ℕ) → AllPairs (Below cmp) list → Contains list (n, count) → count_in cmp list n ≡ count
  count_in-at [] n count rising at = absurd (Contains-none (n, count) at)
  count_in-at (group ∷ others) n count rising at =
      ⊎_elim
      (λ (same : group ≡ (n, count)). count_in-here group others n (ap (λ (g : V × ℕ). g.0) (sym same)) rising ∙ ap (λ (g : V × ℕ). g.1) same)
      (λ (later : Contains others (n, count)).
      let P : V × ℕ → Type 0 = Below cmp group in
      let above : Below cmp group (n, count) = subst P later.2 (pairs_front (Below cmp) group others rising later.0 (n, count) later.1) in
      let here = ap {B = ℕ} (λ o. cond (is_eq o) group.1 0) (order_above group.0 n above) in
      omega (arith, here, count_in-at others n count (pairs_behind (Below cmp) group others rising) later))
      (Contains-cases group others (n, count) at)

  -- a value with hits has a group, by the order of the value and the first group's
  there_at : (o : Ordering) (group : V × ℕ) (others : List (V × ℕ)) (n : V) → cmp n group.0 ≡ o → AllPairs (Below cmp) (group ∷ others) →
      (0 < count_in cmp others n → Contains others (n, count_in cmp others n)) → 0 < count_in cmp (group ∷ others) n →
      Contains (group ∷ others) (n, count_in cmp (group ∷ others) n)
  there_at Less group others n e rising rest some =
      let same : count_in cmp (group ∷ others) n ≡ count_in cmp others n = ap (λ o. cond (is_eq o) group.1 0 + count_in cmp others n) e ∙ omega arith in
      let P : ℕ → Type 0 = λ count. Contains (group ∷ others) (n, count) in
      subst P (sym same) (Contains-behind group others (n, count_in cmp others n) (rest (omega (arith, same, some))))
  there_at Equal group others n e rising rest some =
      let same = order.same n group.0 e in
      Contains-first group others (n, count_in cmp (group ∷ others) n)
      (ap (λ x. (x, group.1)) (sym same) ∙ ap (λ count. (n, count)) (sym (count_in-here group others n same rising)))
  there_at Greater group others n e rising rest some =
      let same : count_in cmp (group ∷ others) n ≡ count_in cmp others n = ap (λ o. cond (is_eq o) group.1 0 + count_in cmp others n) e ∙ omega arith in
      let P : ℕ → Type 0 = λ count. Contains (group ∷ others) (n, count) in
      subst P (sym same) (Contains-behind group others (n, count_in cmp others n) (rest (omega (arith, same, some))))

  -- a value with hits has a group
  pub count_in-there : (list : List (V × ℕ)) (n : V) → AllPairs (Below cmp) list → 0 < count_in cmp list n → Contains list (n, count_in cmp list n)
  count_in-there [] n rising some = absurd (omega (arith, some))
  count_in-there (group ∷ others) n rising some =
      there_at (cmp n group.0) group others n refl rising (count_in-there others n (pairs_behind (Below cmp) group others rising)) some

  -- at most one of two values is below the other
  pub Below-one_way : (a b : V × ℕ) → Below cmp a b → Below cmp b a → ⊥
  Below-one_way a b h l = let contra : Less ≡ Greater = sym l ∙ order_above a.0 b.0 h in cc

  -- a group of one list is a group of another with the same counts
  group_there : (xs ys : List (V × ℕ)) → AllPairs (Below cmp) xs → All (λ g. 0 < g.1) xs → AllPairs (Below cmp) ys →
      ((n : V) → count_in cmp xs n ≡ count_in cmp ys n) →
      (group : V × ℕ) → Contains xs group → Contains ys group
  group_there xs ys rising positive up alike group at =
      let P : V × ℕ → Type 0 = λ g. 0 < g.1 in
      let Q : ℕ → Type 0 = λ c. Contains ys (group.0, c) in
      let here : count_in cmp xs group.0 ≡ group.1 = count_in-at xs group.0 group.1 rising at in
      let same : count_in cmp ys group.0 ≡ group.1 = sym (alike group.0) ∙ here in
      let some : 0 < group.1 = All-contains P xs group positive at in
      subst Q same (count_in-there ys group.0 up (omega (arith, same, some)))

  -- lists of groups with the same counts are equal
  pub one_list_of_groups : (xs ys : List (V × ℕ)) → AllPairs (Below cmp) xs → All (λ g. 0 < g.1) xs → AllPairs (Below cmp) ys → All (λ g. 0 < g.1) ys →
      ((n : V) → count_in cmp xs n ≡ count_in cmp ys n) → xs ≡ ys
  one_list_of_groups xs ys rising positive up some alike =
      one_order (Below cmp) Below-one_way xs ys rising up (group_there xs ys rising positive up alike) (group_there ys xs up some rising (λ n. sym (alike n)))

  -- one more hit adds one to the sum of the counts, by the order of its value and the first group's
  counted_more : (o : Ordering) (group : V × ℕ) (others : List (V × ℕ)) (n : V) →
      hits_counted (count_one cmp others n) ≡ hits_counted others + 1 →
      hits_counted (match_ordering o ((n, 1) ∷ group ∷ others) ((group.0, group.1 + 1) ∷ others) (group ∷ count_one cmp others n))
      ≡ group.1 + hits_counted others + 1
  counted_more Less group others n e = omega arith
  counted_more Equal group others n e = omega arith
  counted_more Greater group others n e = omega (arith, e)

  -- one more hit adds one to the sum of the counts
  hits_counted-one : (others : List (V × ℕ)) (n : V) → hits_counted (count_one cmp others n) ≡ hits_counted others + 1
  hits_counted-one [] n = omega arith
  hits_counted-one (group ∷ others) n = counted_more (cmp n group.0) group others n (hits_counted-one others n)

  -- several hits add their number to the sum of the counts
  pub hits_counted-fold : (others : List (V × ℕ)) (ns : List V) → hits_counted (fold (count_one cmp) others ns) ≡ hits_counted others + length ns
  hits_counted-fold others [] = omega arith
  hits_counted-fold others (n ∷ ns) = omega (arith, hits_counted-fold (count_one cmp others n) ns, hits_counted-one others n)

-- natural numbers that compare as equal are equal
pub nat_order : IsOneOrder nat_cmp
nat_order = record { total = nat_cmp_total; same = nat_cmp-IsAntisymmetric }
