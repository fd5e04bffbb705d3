-- Each size is in one level.
use Rattle.std.proofs.Common.{◌≡◌, ◌≢◌, ◌+◌, ◌<◌, ◌≤◌, ◌==◌, ℕ, Bool, true, false, cond, nat_le, List, [], ◌∷◌, ◌++◌, map, filter, length, refl, sym, ap, ◌∙◌}
use Rattle.std.proofs.Common.{subst, arith, All, AllPairs}
use Rattle.std.specs.List.{flat_map, sum_by}
use Rattle.std.proofs.lemmas.Bool.{leb-true}
use Rattle.std.proofs.lemmas.Bool.Decides.{nat_tests}
use Rattle.std.proofs.lemmas.List.{append_assoc, length-map}
use Rattle.std.proofs.lemmas.List.Sums.{sum_by-cons, sum_by-append}
use Rattle.std.proofs.lemmas.List.Elements.{All-nil, All-cons, All-append, All-head, All-tail, All-weaker, All-map, filter_passes}
use Rattle.std.proofs.lemmas.List.Kept.{AllPairs-cons}
use Rattle.std.proofs.lemmas.List.Sorted.{All-permutation, sum_by-IsPermutation}
use Rattle.fts_merge.specs.declared.merge_plan.LevelSize.{LevelSize}
use Rattle.fts_merge.specs.declared.merge_policy.MergePolicy.{MergePolicy}
use Rattle.fts_merge.specs.Levels.{as_counted, considered, greatest_first, joins, levels_behind, levels_of, levels, large_enough, candidates, together, usual}
use Rattle.fts_merge.proofs.LevelsLemmas.{considered_from, considered-cons}
use Rattle.fts_merge.proofs.OrderLemmas.{IsPermutation-greatest_first}

-- the members of all levels, one level after the other
abbrev joined : List (List LevelSize) → List LevelSize
joined ls = flat_map (λ level. level) ls

abbrev pub named : List (List ℕ) → List ℕ
named found = flat_map (λ candidate. candidate) found

-- levels partition a list
joined-behind : (first : ℕ) (level cs : List LevelSize) → joined (levels_behind first level cs) ≡ level ++ cs
joined-behind first level [] = refl
joined-behind first level (c ∷ cs) =
    elim (joins first c.size) as (λ b. joined (cond b (levels_behind first (level ++ c ∷ []) cs) (level ∷ levels_behind c.size (c ∷ []) cs)) ≡ level ++ c ∷ cs) [
      | true ↦ joined-behind first (level ++ c ∷ []) cs ∙ append_assoc level (c ∷ []) cs
      | false ↦ ap (λ ds. level ++ ds) (joined-behind c.size (c ∷ []) cs)
    ]

joined-levels_of : (cs : List LevelSize) → joined (levels_of cs) ≡ cs
joined-levels_of [] = refl
joined-levels_of (c ∷ cs) = joined-behind c.size (c ∷ []) cs

-- 1 if a number is this one, and otherwise 0
abbrev pub once : ℕ → ℕ → ℕ
once i n = cond (n == i) 1 0

-- 1 if a size has this index, and otherwise 0
abbrev once_of : ℕ → LevelSize → ℕ
once_of i c = once i c.index

-- an index is considered at most once
absent : (i : ℕ) (cs : List LevelSize) → All (λ c. i < c.index) cs → sum_by (once_of i) cs ≡ 0
absent i [] above = refl
absent i (c ∷ cs) above =
    let here : i < c.index = All-head (λ (c : LevelSize). i < c.index) c cs above in
    let none : once_of i c ≡ 0 = grind (arith, nat_tests) in
    omega (arith, none, absent i cs (All-tail (λ (c : LevelSize). i < c.index) c cs above), sum_by-cons (once_of i) c cs)

from_first : (p : MergePolicy) (n : ℕ) (sizes : List ℕ) → All (λ c. n ≤ c.index) (considered_from p n sizes)
from_first p n [] = All-nil (λ (c : LevelSize). n ≤ c.index)
from_first p n (size ∷ sizes) =
    let P : LevelSize → Type 0 = λ c. n ≤ c.index in
    let rest = All-weaker (λ (c : LevelSize). n + 1 ≤ c.index) P (λ c h. omega (arith, h)) (considered_from p (n + 1) sizes) (from_first p (n + 1) sizes) in
    subst (All P) (sym (considered-cons p n size sizes))
    (elim (nat_le size p.most) as (λ b. All P (cond b (as_counted p.floor (n, size) ∷ considered_from p (n + 1) sizes) (considered_from p (n + 1) sizes))) [
      | true ↦ All-cons P (as_counted p.floor (n, size)) (considered_from p (n + 1) sizes) (omega arith) rest
      | false ↦ rest
    ])

considered_once : (p : MergePolicy) (i n : ℕ) (sizes : List ℕ) → sum_by (once_of i) (considered_from p n sizes) ≤ 1
considered_once p i n [] = omega arith
considered_once p i n (size ∷ sizes) =
    let others = considered_from p (n + 1) sizes in
    let rest = considered_once p i (n + 1) sizes in
    subst (λ (cs : List LevelSize). sum_by (once_of i) cs ≤ 1) (sym (considered-cons p n size sizes))
    (elim (nat_le size p.most) as (λ b. sum_by (once_of i) (cond b (as_counted p.floor (n, size) ∷ others) others) ≤ 1) [
      | true ↦ elim (n == i) as (λ b. (n == i) ≡ b → sum_by (once_of i) (as_counted p.floor (n, size) ∷ others) ≤ 1) [
        | true ↦ λ is.
            let same : n ≡ i = grind (arith, nat_tests) in
            let one : once_of i (as_counted p.floor (n, size)) ≡ 1 = ap (λ b. cond b 1 0) is in
            let none = absent i others (All-weaker (λ (c : LevelSize). n + 1 ≤ c.index) (λ (c : LevelSize). i < c.index) (λ c h. omega (arith, h, same)) others
            (from_first p (n + 1) sizes)) in
            omega (arith, one, none, sum_by-cons (once_of i) (as_counted p.floor (n, size)) others)
        | false ↦ λ is.
            let no : once_of i (as_counted p.floor (n, size)) ≡ 0 = ap (λ b. cond b 1 0) is in
            omega (arith, no, rest, sum_by-cons (once_of i) (as_counted p.floor (n, size)) others)
      ] refl
      | false ↦ rest
    ])

-- the indexes of a level
abbrev indexes : List LevelSize → List ℕ
indexes level = map (λ c. c.index) level

sum-indexes : (i : ℕ) (level : List LevelSize) → sum_by (once i) (indexes level) ≡ sum_by (once_of i) level
sum-indexes i [] = refl
sum-indexes i (c ∷ cs) = omega (arith, sum-indexes i cs, sum_by-cons (once i) c.index (indexes cs), sum_by-cons (once_of i) c cs)

-- one more level, by whether it is large enough
one_level : (m : ℕ) (level : List LevelSize) (more : List (List LevelSize)) →
    large_enough m (level ∷ more) ≡ cond (nat_le m (length level)) (indexes level ∷ large_enough m more) (large_enough m more)
one_level m level more =
    let is_large : List LevelSize → Bool = λ level. nat_le m (length level) in
    elim (nat_le m (length level)) as (λ b. map indexes (cond b (level ∷ filter is_large more) (filter is_large more))
    ≡ cond b (indexes level ∷ large_enough m more) (large_enough m more)) [ true ↦ refl | false ↦ refl ]

-- candidates have no more members than levels
named-fewer : (m i : ℕ) (ls : List (List LevelSize)) → sum_by (once i) (named (large_enough m ls)) ≤ sum_by (once_of i) (joined ls)
named-fewer m i [] = omega arith
named-fewer m i (level ∷ ls) =
    let rest = named-fewer m i ls in
    let all = sum_by-append (once_of i) level (joined ls) in
    subst (λ (found : List (List ℕ)). sum_by (once i) (named found) ≤ sum_by (once_of i) (level ++ joined ls)) (sym (one_level m level ls))
    (elim (nat_le m (length level)) as (λ b. sum_by (once i) (named (cond b (indexes level ∷ large_enough m ls) (large_enough m ls))) ≤ sum_by (once_of i)
    (level ++ joined ls)) [
      | true ↦ omega (arith, rest, all, sum-indexes i level, sum_by-append (once i) (indexes level) (named (large_enough m ls)))
      | false ↦ omega (arith, rest, all)
    ])

-- a property of the members of two lists, appended, holds of each list
All-front : {X : Type 0} (P : X → Type 0) (xs ys : List X) → All P (xs ++ ys) → All P xs
All-front P [] ys ps = All-nil P
All-front P (x ∷ xs) ys ps = All-cons P x xs (All-head P x (xs ++ ys) ps) (All-front P xs ys (All-tail P x (xs ++ ys) ps))

All-back : {X : Type 0} (P : X → Type 0) (xs ys : List X) → All P (xs ++ ys) → All P ys
All-back P [] ys ps = ps
All-back P (x ∷ xs) ys ps = All-back P xs ys (All-tail P x (xs ++ ys) ps)

-- a property of all indexes holds of those in candidates
All-named : (m : ℕ) (P : ℕ → Type 0) (ls : List (List LevelSize)) → All (λ c. P c.index) (joined ls) → All P (named (large_enough m ls))
All-named m P [] ps = All-nil P
All-named m P (level ∷ ls) ps =
    let Q : LevelSize → Type 0 = λ c. P c.index in
    let rest = All-named m P ls (All-back Q level (joined ls) ps) in
    subst (λ (found : List (List ℕ)). All P (named found)) (sym (one_level m level ls))
    (elim (nat_le m (length level)) as (λ b. All P (named (cond b (indexes level ∷ large_enough m ls) (large_enough m ls)))) [
      | true ↦ All-append P (indexes level) (named (large_enough m ls)) (All-map P (λ (c : LevelSize). c.index) level (All-front Q level (joined ls) ps)) rest
      | false ↦ rest
    ])

-- numbers that occur at most once are distinct
apart : (n : ℕ) (ns : List ℕ) → sum_by (once n) ns ≤ 0 → All (λ m. n ≢ m) ns
apart n [] h = All-nil (λ (m : ℕ). n ≢ m)
apart n (m ∷ ns) h =
    let none : once n m ≡ 0 = omega (arith, h, sum_by-cons (once n) m ns) in
    All-cons (λ (m : ℕ). n ≢ m) m ns (λ e. let one : once n m ≡ 1 = grind (arith, nat_tests) in omega (arith, none, one))
    (apart n ns (omega (arith, h, sum_by-cons (once n) m ns)))

pub pairs_apart : (ns : List ℕ) → ((i : ℕ) → sum_by (once i) ns ≤ 1) → AllPairs (λ i j. i ≢ j) ns
pairs_apart [] h = λ i j d lt within. absurd (omega (arith, within))
pairs_apart (n ∷ ns) h =
    let one : once n n ≡ 1 = grind (arith, nat_tests) in
    AllPairs-cons (λ (i j : ℕ). i ≢ j) n ns (apart n ns (omega (arith, h n, one, sum_by-cons (once n) n ns)))
    (pairs_apart ns (λ i. omega (arith, h i, sum_by-cons (once i) n ns)))

pub together-many : (p : MergePolicy) (sizes : List ℕ) → All (λ candidate. p.members ≤ length candidate) (together p sizes)
together-many p sizes =
    let is_large : List LevelSize → Bool = λ level. nat_le p.members (length level) in
    All-map (λ (candidate : List ℕ). p.members ≤ length candidate) indexes (filter is_large (levels p sizes))
    (All-weaker (λ level. is_large level ≡ true) (λ level. p.members ≤ length (indexes level))
    (λ level h. omega (arith, leb-true p.members (length level) h, length-map level (λ (c : LevelSize). c.index)))
    (filter is_large (levels p sizes)) (filter_passes is_large (levels p sizes)))

considered_below : (p : MergePolicy) (n end : ℕ) (sizes : List ℕ) → n + length sizes ≤ end → All (λ c. c.index < end) (considered_from p n sizes)
considered_below p n end [] e = All-nil (λ (c : LevelSize). c.index < end)
considered_below p n end (size ∷ sizes) e =
    let P : LevelSize → Type 0 = λ c. c.index < end in
    let rest = considered_below p (n + 1) end sizes (omega (arith, e)) in
    subst (All P) (sym (considered-cons p n size sizes))
    (elim (nat_le size p.most) as (λ b. All P (cond b (as_counted p.floor (n, size) ∷ considered_from p (n + 1) sizes) (considered_from p (n + 1) sizes))) [
      | true ↦ All-cons P (as_counted p.floor (n, size)) (considered_from p (n + 1) sizes) (omega (arith, e)) rest
      | false ↦ rest
    ])

pub together-within : (p : MergePolicy) (sizes : List ℕ) → All (λ index. index < length sizes) (named (together p sizes))
together-within p sizes =
    let cs = considered p sizes in
    let P : LevelSize → Type 0 = λ c. c.index < length sizes in
    let all = All-permutation P cs (greatest_first cs) (IsPermutation-greatest_first cs) (considered_below p 0 (length sizes) sizes (omega arith)) in
    All-named p.members (λ index. index < length sizes) (levels p sizes) (subst (All P) (sym (joined-levels_of (greatest_first cs))) all)

pub together-sum : (p : MergePolicy) (sizes : List ℕ) (i : ℕ) → sum_by (once i) (named (together p sizes)) ≤ 1
together-sum p sizes i =
    let cs = considered p sizes in
    omega (
      arith,
      named-fewer p.members i (levels p sizes),
      ap (sum_by (once_of i)) (joined-levels_of (greatest_first cs)),
      sum_by-IsPermutation (once_of i) cs
          (greatest_first cs) (IsPermutation-greatest_first cs),
      considered_once p i 0 sizes,
    )

pub candidates-many : (sizes : List ℕ) → All (λ candidate. 8 ≤ length candidate) (candidates sizes)
candidates-many sizes = together-many usual sizes

pub candidates-within : (sizes : List ℕ) → All (λ index. index < length sizes) (named (candidates sizes))
candidates-within sizes = together-within usual sizes

pub candidates-once : (sizes : List ℕ) → AllPairs (λ i j. i ≢ j) (named (candidates sizes))
candidates-once sizes = pairs_apart (named (candidates sizes)) (together-sum usual sizes)
