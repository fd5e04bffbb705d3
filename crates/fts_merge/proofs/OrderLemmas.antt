-- The order of sizes: ordered lists with the same members are equal.
use Rattle.std.proofs.Common.{◌≡◌, ◌+◌, ◌<◌, ◌≤◌, ◌&&◌, ◌||◌, ◌==◌, ℕ, suc, Bool, true, false, cond, nat_lt, nat_cmp, is_lt, List, [], ◌∷◌, length, get_or}
use Rattle.std.proofs.Common.{refl, sym, ap, ap₂, subst, ◌∙◌, arith, All}
use Rattle.std.specs.Ordering.{ordering_then}
use Rattle.std.specs.List.{sum_by}
use Rattle.std.specs.List.Sorted.{IsPermutation}
use Rattle.std.proofs.lemmas.Bool.Decides.{nat_tests}
use Rattle.std.proofs.lemmas.List.Sums.{sum_by-cons}
use Rattle.std.proofs.lemmas.List.Elements.{All-nil, All-cons, All-head, All-tail, All-weaker}
use Rattle.std.proofs.lemmas.List.Sorted.{IsPermutation-refl, IsPermutation-cons, IsPermutation-trans, IsPermutation-middle, sum_by-IsPermutation}
use Rattle.fts_merge.specs.declared.merge_plan.LevelSize.{LevelSize}
use Rattle.fts_merge.specs.Levels.{comes_first, placed, greatest_first}

-- a size with its index comes before another, by numbers
abbrev comes : ℕ → ℕ → ℕ → ℕ → Bool
comes s i t j = nat_lt t s || s == t && nat_lt i j

comes_one_way : (s i t j : ℕ) → comes s i t j ≡ true → comes t j s i ≡ false
comes_one_way s i t j h = grind (arith, nat_tests)

comes_chain : (s i t j u k : ℕ) → comes t j s i ≡ false → comes u k t j ≡ false → comes u k s i ≡ false
comes_chain s i t j u k g h = grind (arith, nat_tests)

comes_not_itself : (s i : ℕ) → comes s i s i ≡ false
comes_not_itself s i = grind (arith, nat_tests)

comes_tied_size : (s i t j : ℕ) → comes s i t j ≡ false → comes t j s i ≡ false → s ≡ t
comes_tied_size s i t j g h = grind (arith, nat_tests)

comes_tied_index : (s i t j : ℕ) → comes s i t j ≡ false → comes t j s i ≡ false → i ≡ j
comes_tied_index s i t j g h = grind (arith, nat_tests)

-- the order of pairs is the order by numbers
pub comes_as_pairs : (s i t j : ℕ) → is_lt (ordering_then (nat_cmp t s) (nat_cmp i j)) ≡ comes s i t j
comes_as_pairs s i t j = grind (arith, nat_tests)

-- a size doesn't come after another
abbrev NotAfter : LevelSize → LevelSize → Type 0
NotAfter c d = comes_first d c ≡ false

-- sizes in order
abbrev pub IsOrdered : List LevelSize → Type 0
IsOrdered [] = Unit {0}
IsOrdered (c ∷ cs) = All (NotAfter c) cs × IsOrdered cs

chained : (c d : LevelSize) (cs : List LevelSize) → NotAfter c d → All (NotAfter d) cs → All (NotAfter c) cs
chained c d cs first behind = All-weaker (NotAfter d) (NotAfter c) (λ e h. comes_chain c.size c.index d.size d.index e.size e.index first h) cs behind

All-placed : (P : LevelSize → Type 0) (c : LevelSize) (ds : List LevelSize) → P c → All P ds → All P (placed c ds)
All-placed P c [] p ps = All-cons P c [] p ps
All-placed P c (d ∷ ds) p ps =
    elim (comes_first c d) as (λ b. All P (cond b (c ∷ d ∷ ds) (d ∷ placed c ds))) [
      | true ↦ All-cons P c (d ∷ ds) p ps
      | false ↦ All-cons P d (placed c ds) (All-head P d ds ps) (All-placed P c ds p (All-tail P d ds ps))
    ]

IsOrdered-placed : (c : LevelSize) (ds : List LevelSize) → IsOrdered ds → IsOrdered (placed c ds)
IsOrdered-placed c [] o = (All-nil (NotAfter c), tt)
IsOrdered-placed c (d ∷ ds) o =
    elim (comes_first c d) as (λ b. comes_first c d ≡ b → IsOrdered (cond b (c ∷ d ∷ ds) (d ∷ placed c ds))) [
      | true ↦ λ is. let first : NotAfter c d = comes_one_way c.size c.index d.size d.index is in
          (All-cons (NotAfter c) d ds first (chained c d ds first o.0), o)
      | false ↦ λ is. (All-placed (NotAfter d) c ds is o.0, IsOrdered-placed c ds o.1)
    ] refl

IsOrdered-greatest_first : (cs : List LevelSize) → IsOrdered (greatest_first cs)
IsOrdered-greatest_first [] = tt
IsOrdered-greatest_first (c ∷ cs) = IsOrdered-placed c (greatest_first cs) (IsOrdered-greatest_first cs)

IsPermutation-placed : (c : LevelSize) (ds : List LevelSize) → IsPermutation (c ∷ ds) (placed c ds)
IsPermutation-placed c [] = IsPermutation-refl (c ∷ [])
IsPermutation-placed c (d ∷ ds) =
    elim (comes_first c d) as (λ b. IsPermutation (c ∷ d ∷ ds) (cond b (c ∷ d ∷ ds) (d ∷ placed c ds))) [
      | true ↦ IsPermutation-refl (c ∷ d ∷ ds)
      | false ↦ IsPermutation-trans (c ∷ d ∷ ds) (d ∷ c ∷ ds) (d ∷ placed c ds) (IsPermutation-middle (c ∷ []) d ds)
          (IsPermutation-cons d (c ∷ ds) (placed c ds) (IsPermutation-placed c ds))
    ]

-- sorting sizes is a permutation
pub IsPermutation-greatest_first : (cs : List LevelSize) → IsPermutation cs (greatest_first cs)
IsPermutation-greatest_first [] = IsPermutation-refl []
IsPermutation-greatest_first (c ∷ cs) =
    IsPermutation-trans (c ∷ cs) (c ∷ greatest_first cs) (placed c (greatest_first cs))
    (IsPermutation-cons c cs (greatest_first cs) (IsPermutation-greatest_first cs)) (IsPermutation-placed c (greatest_first cs))

-- two sizes with their indexes are equal
abbrev is_same : LevelSize → LevelSize → Bool
is_same c d = c.size == d.size && c.index == d.index

same_itself : (c : LevelSize) → is_same c c ≡ true
same_itself c = grind (arith, nat_tests)

same_from : (c d : LevelSize) → c.size ≡ d.size → c.index ≡ d.index → c ≡ d
same_from c d s i = ap₂ (λ (a b : ℕ). let e : LevelSize = record { size = a; index = b } in e) s i

same_is : (c d : LevelSize) → is_same c d ≡ true → c ≡ d
same_is c d h = same_from c d (grind (arith, nat_tests)) (grind (arith, nat_tests))

-- 1 if a size is this one, and otherwise 0
abbrev once : LevelSize → LevelSize → ℕ
once c d = cond (is_same c d) 1 0

-- a property of all holds of one that occurs
occurs : (P : LevelSize → Type 0) (c : LevelSize) (ds : List LevelSize) → All P ds → 1 ≤ sum_by (once c) ds → P c
occurs P c [] ps more = absurd (omega (arith, more))
occurs P c (d ∷ ds) ps more =
    elim (is_same c d) as (λ b. is_same c d ≡ b → P c) [
      | true ↦ λ is. subst P (sym (same_is c d is)) (All-head P d ds ps)
      | false ↦ λ is. let none : once c d ≡ 0 = ap (λ b. cond b 1 0) is in
          occurs P c ds (All-tail P d ds ps) (omega (arith, more, none, sum_by-cons (once c) d ds))
    ] refl

-- ordered lists that have the same members as often are equal
one_order : (cs ds : List LevelSize) → IsOrdered cs → IsOrdered ds → ((e : LevelSize) → sum_by (once e) cs ≡ sum_by (once e) ds) → cs ≡ ds
one_order [] [] o p same = refl
one_order [] (d ∷ ds) o p same =
    let one : once d d ≡ 1 = ap (λ b. cond b 1 0) (same_itself d) in
    let none : sum_by (once d) (d ∷ ds) ≡ 0 = sym (same d) in absurd (omega (arith, none, one, sum_by-cons (once d) d ds))
one_order (c ∷ cs) [] o p same =
    let one : once c c ≡ 1 = ap (λ b. cond b 1 0) (same_itself c) in
    let none : sum_by (once c) (c ∷ cs) ≡ 0 = same c in absurd (omega (arith, none, one, sum_by-cons (once c) c cs))
one_order (c ∷ cs) (d ∷ ds) o p same =
    let one : once c c ≡ 1 = ap (λ b. cond b 1 0) (same_itself c) in
    let one' : once d d ≡ 1 = ap (λ b. cond b 1 0) (same_itself d) in
    let down : NotAfter d c = occurs (NotAfter d) c (d ∷ ds) (All-cons (NotAfter d) d ds (comes_not_itself d.size d.index) p.0)
    (omega (arith, same c, one, sum_by-cons (once c) c cs)) in
    let up : NotAfter c d = occurs (NotAfter c) d (c ∷ cs) (All-cons (NotAfter c) c cs (comes_not_itself c.size c.index) o.0)
    (omega (arith, same d, one', sum_by-cons (once d) d ds)) in
    let is : c ≡ d = same_from c d (comes_tied_size c.size c.index d.size d.index down up) (comes_tied_index c.size c.index d.size d.index down up) in
    let rest = one_order cs ds o.1 p.1 (λ e. omega (arith, same e, ap (once e) is, sum_by-cons (once e) c cs, sum_by-cons (once e) d ds)) in
    ap₂ (λ x xs. x ∷ xs) is rest

-- a list whose neighbours are in order is ordered
ordered_from : (cs : List LevelSize) → ((k : ℕ) (d : LevelSize) → k + 1 < length cs → NotAfter (get_or cs k d) (get_or cs (k + 1) d)) → IsOrdered cs
ordered_from [] h = tt
ordered_from (c ∷ []) h = (All-nil (NotAfter c), tt)
ordered_from (c ∷ d ∷ cs) h =
    let first : NotAfter c d = h 0 c (omega arith) in
    let rest = ordered_from (d ∷ cs) (λ k e within.
    let next : suc k + 1 ≡ suc (k + 1) = omega arith in
    let P : ℕ → Type 0 = λ n. NotAfter (get_or (d ∷ cs) k e) (get_or (c ∷ d ∷ cs) n e) in
    subst P next (h (suc k) e (omega (arith, within)))) in
    (All-cons (NotAfter c) d cs first (chained c d cs first rest.0), rest)

-- a permutation of sizes whose neighbours are in order is the sorted list
pub greatest_first-is : (cs ds : List LevelSize) → IsPermutation cs ds →
    ((k : ℕ) (d : LevelSize) → k + 1 < length ds → comes_first (get_or ds (k + 1) d) (get_or ds k d) ≡ false) → ds ≡ greatest_first cs
greatest_first-is cs ds moved sorted =
    one_order ds (greatest_first cs) (ordered_from ds sorted) (IsOrdered-greatest_first cs)
    (λ e. sum_by-IsPermutation (once e) cs ds moved ∙ sym (sum_by-IsPermutation (once e) cs (greatest_first cs) (IsPermutation-greatest_first cs)))
