-- Sizes raised to the floor, and their levels.
use Rattle.std.proofs.Common.{◌≡◌, ◌+◌, ◌-◌, ◌^◌, ◌<◌, ◌≤◌, ℕ, Bool, true, false, cond, nat_le, List, [], ◌∷◌, ◌++◌, map, filter, length, drop, take, get_or}
use Rattle.std.proofs.Common.{slice_range, refl, sym, ap, ap₂, ◌∙◌, subst, arith, All}
use Rattle.std.specs.List.{enumerate_from}
use Rattle.std.proofs.Math.Nat.{pow-le-pow_left}
use Rattle.std.proofs.lemmas.Bool.Decides.{nat_tests}
use Rattle.std.proofs.lemmas.List.{append_assoc, get_or-drop, length-drop, take_more}
use Rattle.std.proofs.lemmas.List.Elements.{All-nil, All-cons}
use Rattle.fts_merge.specs.declared.merge_plan.LevelSize.{LevelSize}
use Rattle.fts_merge.specs.declared.merge_policy.MergePolicy.{MergePolicy}
use Rattle.fts_model.specs.Limits.{most_merged}
use Rattle.fts_merge.specs.Levels.{as_counted, joins, levels_behind, large_enough}
use Rattle.fts_segment.proofs.SourceLemmas.{dropped}

-- sizes raised to the floor, the first of which has the index n
abbrev pub considered_from : MergePolicy → ℕ → List ℕ → List LevelSize
considered_from p n sizes = map (as_counted p.floor) (filter (λ s. nat_le s.1 p.most) (enumerate_from n sizes))

pub considered-cons : (p : MergePolicy) (n size : ℕ) (sizes : List ℕ) →
    considered_from p n (size ∷ sizes) ≡ cond (nat_le size p.most) (as_counted p.floor (n, size) ∷ considered_from p (n + 1) sizes)
    (considered_from p (n + 1) sizes)
considered-cons p n size sizes =
    let rest = filter (λ (s : ℕ × ℕ). nat_le s.1 p.most) (enumerate_from (n + 1) sizes) in
    elim (nat_le size p.most) as (λ b. map (as_counted p.floor) (cond b ((n, size) ∷ rest) rest)
    ≡ cond b (as_counted p.floor (n, size) ∷ considered_from p (n + 1) sizes) (considered_from p (n + 1) sizes)) [ true ↦ refl | false ↦ refl ]

-- sizes raised to the floor are at most the maximum
pub considered-within : (p : MergePolicy) (n : ℕ) (sizes : List ℕ) → p.floor ≤ most_merged → p.most ≤ most_merged →
    All (λ c. c.size ≤ most_merged) (considered_from p n sizes)
considered-within p n [] f m = All-nil (λ (c : LevelSize). c.size ≤ most_merged)
considered-within p n (size ∷ sizes) f m =
    let P : LevelSize → Type 0 = λ c. c.size ≤ most_merged in
    let rest = considered-within p (n + 1) sizes f m in
    subst (All P) (sym (considered-cons p n size sizes))
    (elim (nat_le size p.most) as (λ b. nat_le size p.most ≡ b → All P (cond b (as_counted p.floor (n, size) ∷ considered_from p (n + 1) sizes)
    (considered_from p (n + 1) sizes))) [
      | true ↦ λ is. All-cons P (as_counted p.floor (n, size)) (considered_from p (n + 1) sizes) (grind (arith, nat_tests)) rest
      | false ↦ λ is. rest
    ] refl)

-- the fourth power of a considered size is bounded
pub fourth_power-bound : (size : ℕ) → size ≤ most_merged → size ^ 4 ≤ 1208925819614629174706176
fourth_power-bound size h = pow-le-pow_left h 4

-- the levels that are large enough, with the first split off
pub large_enough-cons : (m : ℕ) (level : List LevelSize) (more : List (List LevelSize)) → large_enough m (level ∷ more) ≡ large_enough m (level ∷ [])
    ++ large_enough m more
large_enough-cons m level more =
    let is_large : List LevelSize → Bool = λ level. nat_le m (length level) in
    let told : List (List LevelSize) → List (List ℕ) = map (λ level. map (λ c. c.index) level) in
    elim (nat_le m (length level)) as (λ b. told (cond b (level ∷ filter is_large more) (filter is_large more)) ≡ told (cond b (level ∷ []) []) ++ large_enough
    m more) [ true ↦ refl | false ↦ refl ]

-- a range with one more member
stretch_more : (cs : List LevelSize) (start place : ℕ) (c : LevelSize) → start < place → place < length cs → c ≡ get_or cs place c →
    slice_range cs start (place + 1) ≡ slice_range cs start place ++ c ∷ []
stretch_more cs start place c begun within is =
    let n = place - start in
    let there : start + n ≡ place = omega arith in
    let at : get_or (drop start cs) n c ≡ c = get_or-drop start cs n c ∙ ap (λ k. get_or cs k c) there ∙ sym is in
    let longer : place + 1 - start ≡ n + 1 = omega arith in
    ap (λ k. take k (drop start cs)) longer ∙ take_more (drop start cs) n c (omega (arith, length-drop start cs))
    ∙ ap (λ d. take n (drop start cs) ++ d ∷ []) at

-- a range of one member
stretch_of_one : (cs : List LevelSize) (place : ℕ) (c : LevelSize) → place < length cs → c ≡ get_or cs place c → slice_range cs place (place + 1) ≡ c ∷ []
stretch_of_one cs place c within is =
    let one : place + 1 - place ≡ 1 = omega arith in
    ap (λ k. take k (drop place cs)) one ∙ ap (take 1) (dropped cs place c within is)

-- a size joins the current level
pub level_joined : (m : ℕ) (found all : List (List ℕ)) (cs : List LevelSize) (start place first : ℕ) (c : LevelSize) → start < place → place < length cs →
    c ≡ get_or cs place c → joins first c.size ≡ true →
    found ++ large_enough m (levels_behind first (slice_range cs start place) (drop place cs)) ≡ all →
    found ++ large_enough m (levels_behind first (slice_range cs start (place + 1)) (drop (place + 1) cs)) ≡ all
level_joined m found all cs start place first c begun within is joined old =
    let level = slice_range cs start place in
    let rest = drop (place + 1) cs in
    let step : levels_behind first level (drop place cs) ≡ levels_behind first (slice_range cs start (place + 1)) rest =
    ap (levels_behind first level) (dropped cs place c within is)
    ∙ ap (λ b. cond b (levels_behind first (level ++ c ∷ []) rest) (level ∷ levels_behind c.size (c ∷ []) rest)) joined
    ∙ ap (λ cs. levels_behind first cs rest) (sym (stretch_more cs start place c begun within is)) in
    ap (λ ls. found ++ large_enough m ls) (sym step) ∙ old

-- a size begins another level
pub level_opened : (m : ℕ) (found more all : List (List ℕ)) (cs : List LevelSize) (start place first : ℕ) (c : LevelSize) → place < length cs →
    c ≡ get_or cs place c → joins first c.size ≡ false →
    more ≡ found ++ large_enough m (slice_range cs start place ∷ []) →
    found ++ large_enough m (levels_behind first (slice_range cs start place) (drop place cs)) ≡ all →
    more ++ large_enough m (levels_behind c.size (slice_range cs place (place + 1)) (drop (place + 1) cs)) ≡ all
level_opened m found more all cs start place first c within is apart new old =
    let level = slice_range cs start place in
    let rest = drop (place + 1) cs in
    let others = levels_behind c.size (c ∷ []) rest in
    let step : levels_behind first level (drop place cs) ≡ level ∷ others =
    ap (levels_behind first level) (dropped cs place c within is)
    ∙ ap (λ b. cond b (levels_behind first (level ++ c ∷ []) rest) (level ∷ others)) apart in
    ap₂ (λ ls cs. ls ++ large_enough m (levels_behind c.size cs rest)) new (stretch_of_one cs place c within is)
    ∙ append_assoc found (large_enough m (level ∷ [])) (large_enough m others)
    ∙ ap (λ ls. found ++ ls) (sym (large_enough-cons m level others) ∙ ap (large_enough m) (sym step)) ∙ old
