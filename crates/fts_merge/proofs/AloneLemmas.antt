-- Segments that are merged by themselves.
use Rattle.std.proofs.Common.{◌≡◌, ◌≢◌, ◌+◌, ◌<◌, ◌≤◌, ◌==◌, ◌&&◌, ◌||◌, ℕ, zero, suc, Bool, true, false, cond, not, List, [], ◌∷◌, ◌++◌, None, Some, All}
use Rattle.std.proofs.Common.{AllPairs, map, filter, length, drop, get_or, slice_get, nat_eq, refl, sym, ap, subst, ◌∙◌, arith}
use Rattle.std.specs.List.{enumerate_from, list_any, sum_by}
use Rattle.std.proofs.lemmas.Bool.Decides.{nat_tests}
use Rattle.std.proofs.lemmas.Grind.{flat_map-append}
use Rattle.std.proofs.lemmas.List.{append-nil, length-map}
use Rattle.std.proofs.lemmas.List.Elements.{All-nil, All-cons, All-append}
use Rattle.std.proofs.lemmas.List.Folds.{list_any-append}
use Rattle.std.proofs.lemmas.List.Sums.{sum_by-cons, sum_by-append}
use Rattle.fts_merge.specs.declared.merge_policy.MergePolicy.{MergePolicy}
use Rattle.fts_merge.specs.declared.merge_policy.SegmentSize.{SegmentSize}
use Rattle.fts_merge.specs.Levels.{is_mostly_dead, is_named, alone, together, live_sizes, candidates, candidates_by, usual}
use Rattle.fts_merge.proofs.CandidatesLemmas.{named, once, pairs_apart, together-sum, together-within}

-- a segment is a candidate of its own
abbrev pub is_alone : ℕ → List (List ℕ) → ℕ × SegmentSize → Bool
is_alone percent found s = is_mostly_dead percent s.1 && not (is_named found s.0)

-- the candidates of a single segment, the first of which has the index n
abbrev pub alone_from : ℕ → List (List ℕ) → ℕ → List SegmentSize → List (List ℕ)
alone_from percent found n segments = map (λ s. s.0 ∷ []) (filter (is_alone percent found) (enumerate_from n segments))

pub alone-cons : (percent : ℕ) (found : List (List ℕ)) (n : ℕ) (s : SegmentSize) (ss : List SegmentSize) →
    alone_from percent found n (s ∷ ss) ≡ cond (is_alone percent found (n, s)) ((n ∷ []) ∷ alone_from percent found (n + 1) ss)
    (alone_from percent found (n + 1) ss)
alone-cons percent found n s ss =
    let rest = filter (is_alone percent found) (enumerate_from (n + 1) ss) in
    let one : ℕ × SegmentSize → List ℕ = λ s. s.0 ∷ [] in
    elim (is_alone percent found (n, s)) as (λ b. map one (cond b ((n, s) ∷ rest) rest) ≡ cond b ((n ∷ []) ∷ map one rest) (map one rest))
    [ true ↦ refl | false ↦ refl ]

-- a test of some list of indexes
pub named_in : {X : Type 0} (items : X → List ℕ) (p : List ℕ → Bool) (xs : List X) → list_any (λ x. p (items x)) xs ≡ list_any p (map items xs)
named_in items p [] = refl
named_in items p (x ∷ xs) = ap (λ b. p (items x) || b) (named_in items p xs)

-- if a disjunction is false, each part is
or_left : (a b : Bool) → (a || b) ≡ false → a ≡ false
or_left true b h = h
or_left false b h = refl

or_right : (a b : Bool) → (a || b) ≡ false → b ≡ false
or_right true b h = absurd (let no : true ≡ false = h in cc)
or_right false b h = h

or_second : (a b : Bool) → b ≡ true → (a || b) ≡ true
or_second true b h = refl
or_second false b h = h

and_not : (a b : Bool) → (a && not b) ≡ true → b ≡ false
and_not a false h = refl
and_not true true h = absurd (let no : false ≡ true = h in cc)
and_not false true h = absurd (let no : false ≡ true = h in cc)

-- the indexes are among those of the segments
alone_within : (percent : ℕ) (found : List (List ℕ)) (n end : ℕ) (ss : List SegmentSize) → n + length ss ≤ end →
    All (λ i. i < end) (named (alone_from percent found n ss))
alone_within percent found n end [] e = All-nil (λ (i : ℕ). i < end)
alone_within percent found n end (s ∷ ss) e =
    let P : ℕ → Type 0 = λ i. i < end in
    let rest = alone_from percent found (n + 1) ss in
    let behind = alone_within percent found (n + 1) end ss (omega (arith, e)) in
    subst (λ (found : List (List ℕ)). All P (named found)) (sym (alone-cons percent found n s ss))
    (elim (is_alone percent found (n, s)) as (λ b. All P (named (cond b ((n ∷ []) ∷ rest) rest))) [
      | true ↦ All-cons P n (named rest) (omega (arith, e)) behind
      | false ↦ behind
    ])

-- an earlier index is in no later candidate
alone_behind : (percent : ℕ) (found : List (List ℕ)) (i n : ℕ) (ss : List SegmentSize) → i < n → sum_by (once i) (named (alone_from percent found n ss)) ≡ 0
alone_behind percent found i n [] h = refl
alone_behind percent found i n (s ∷ ss) h =
    let rest = alone_from percent found (n + 1) ss in
    let behind = alone_behind percent found i (n + 1) ss (omega (arith, h)) in
    let no : once i n ≡ 0 = grind (arith, nat_tests) in
    subst (λ (found : List (List ℕ)). sum_by (once i) (named found) ≡ 0) (sym (alone-cons percent found n s ss))
    (elim (is_alone percent found (n, s)) as (λ b. sum_by (once i) (named (cond b ((n ∷ []) ∷ rest) rest)) ≡ 0) [
      | true ↦ omega (arith, no, behind, sum_by-cons (once i) n (named rest))
      | false ↦ behind
    ])

abbrev room_left : Bool → ℕ
room_left taken = cond taken 0 1

-- an index is in at most one candidate, and in none of a single segment if another has it
alone_sum : (percent : ℕ) (found : List (List ℕ)) (i n : ℕ) (ss : List SegmentSize) → sum_by (once i) (named (alone_from percent found n ss))
    ≤ room_left (is_named found i)
alone_sum percent found i n [] = omega arith
alone_sum percent found i n (s ∷ ss) =
    let rest = alone_from percent found (n + 1) ss in
    let most : ℕ = room_left (is_named found i) in
    let behind = alone_sum percent found i (n + 1) ss in
    subst (λ (more : List (List ℕ)). sum_by (once i) (named more) ≤ most) (sym (alone-cons percent found n s ss))
    (elim (is_alone percent found (n, s)) as (λ b. is_alone percent found (n, s) ≡ b → sum_by (once i) (named (cond b ((n ∷ []) ∷ rest) rest)) ≤ most) [
      | true ↦ λ is. elim (n == i) as (λ b. (n == i) ≡ b → sum_by (once i) (n ∷ named rest) ≤ most) [
        | true ↦ λ e.
            let same : n ≡ i = grind (arith, nat_tests) in
            let one : once i n ≡ 1 = ap (λ b. cond b 1 0) e in
            let free : is_named found i ≡ false = ap (is_named found) (sym same) ∙ and_not (is_mostly_dead percent s) (is_named found n) is in
            let room : most ≡ 1 = ap room_left free in
            omega (arith, one, room, alone_behind percent found i (n + 1) ss (omega (arith, same)), sum_by-cons (once i) n (named rest))
        | false ↦ λ e.
            let no : once i n ≡ 0 = ap (λ b. cond b 1 0) e in omega (arith, no, behind, sum_by-cons (once i) n (named rest))
      ] refl
      | false ↦ λ is. behind
    ] refl)

-- an index that no candidate has occurs zero times
no_one : (i : ℕ) (ns : List ℕ) → list_any (λ n. nat_eq n i) ns ≡ false → sum_by (once i) ns ≡ 0
no_one i [] h = refl
no_one i (n ∷ ns) h =
    let here : nat_eq n i ≡ false = or_left (nat_eq n i) (list_any (λ n. nat_eq n i) ns) h in
    let no : once i n ≡ 0 = grind (arith, nat_tests) in
    omega (arith, no, no_one i ns (or_right (nat_eq n i) (list_any (λ n. nat_eq n i) ns) h), sum_by-cons (once i) n ns)

not_named : (i : ℕ) (found : List (List ℕ)) → is_named found i ≡ false → sum_by (once i) (named found) ≡ 0
not_named i [] h = refl
not_named i (c ∷ cs) h =
    let here = list_any (λ n. nat_eq n i) c in
    omega (arith, no_one i c (or_left here (is_named cs i) h), not_named i cs (or_right here (is_named cs i) h), sum_by-append (once i) c (named cs))

joined_sum : (p : MergePolicy) (ss : List SegmentSize) (i : ℕ) → sum_by (once i) (named (candidates_by p ss)) ≤ 1
joined_sum p ss i =
    let found = together p (live_sizes ss) in
    let more = alone p.dead found ss in
    let both = ap (sum_by (once i)) (flat_map-append (λ (c : List ℕ). c) found more) ∙ sum_by-append (once i) (named found) (named more) in
    let few = alone_sum p.dead found i 0 ss in
    let some = together-sum p (live_sizes ss) i in
    elim (is_named found i) as (λ b. is_named found i ≡ b → sum_by (once i) (named (candidates_by p ss)) ≤ 1) [
      | true ↦ λ is. let none : room_left (is_named found i) ≡ 0 = ap room_left is in omega (arith, both, few, some, none)
      | false ↦ λ is. let one : room_left (is_named found i) ≡ 1 = ap room_left is in omega (arith, both, few, one, not_named i found is)
    ] refl

pub candidates_by-once : (p : MergePolicy) (ss : List SegmentSize) → AllPairs (λ i j. i ≢ j) (named (candidates_by p ss))
candidates_by-once p ss = pairs_apart (named (candidates_by p ss)) (joined_sum p ss)

pub candidates_by-within : (p : MergePolicy) (ss : List SegmentSize) → All (λ index. index < length ss) (named (candidates_by p ss))
candidates_by-within p ss =
    let P : ℕ → Type 0 = λ index. index < length ss in
    let found = together p (live_sizes ss) in
    let more = alone p.dead found ss in
    let first = subst (λ n. All (λ index. index < n) (named found)) (length-map ss (λ (s : SegmentSize). s.live)) (together-within p (live_sizes ss)) in
    subst (All P) (sym (flat_map-append (λ (c : List ℕ). c) found more))
    (All-append P (named found) (named more) first (alone_within p.dead found 0 (length ss) ss (omega arith)))

-- a segment with too many deleted documents that no other candidate has is a candidate of its own
alone_has : (percent : ℕ) (found : List (List ℕ)) (n k : ℕ) (s : SegmentSize) (ss : List SegmentSize) → slice_get ss k ≡ Some s →
    is_alone percent found (n + k, s) ≡ true →
    is_named (alone_from percent found n ss) (n + k) ≡ true
alone_has percent found n k s [] e is = absurd (let no : None ≡ Some s = e in cc)
alone_has percent found n zero s (t ∷ ss) e is =
    let rest = alone_from percent found (n + 1) ss in
    let first : Some t ≡ Some s = e in
    let same : t ≡ s = cc in
    let at : n + 0 ≡ n = omega arith in
    let here : is_alone percent found (n, t) ≡ true = ap (λ u. is_alone percent found (n, u)) same ∙ ap (λ m. is_alone percent found (m, s)) (sym at) ∙ is in
    let itself : nat_eq n (n + 0) ≡ true = grind (arith, nat_tests) in
    ap (λ found. is_named found (n + 0)) (alone-cons percent found n t ss ∙ ap (λ b. cond b ((n ∷ []) ∷ rest) rest) here)
    ∙ ap (λ b. (b || false) || is_named rest (n + 0)) itself
alone_has percent found n (suc k) s (t ∷ ss) e is =
    let rest = alone_from percent found (n + 1) ss in
    let at : (n + 1) + k ≡ n + suc k = omega arith in
    let behind : is_named rest (n + suc k) ≡ true =
    ap (is_named rest) (sym at) ∙ alone_has percent found (n + 1) k s ss e (ap (λ m. is_alone percent found (m, s)) at ∙ is) in
    ap (λ found. is_named found (n + suc k)) (alone-cons percent found n t ss)
    ∙ (elim (is_alone percent found (n, t)) as (λ b. is_named (cond b ((n ∷ []) ∷ rest) rest) (n + suc k) ≡ true) [
      | true ↦ or_second (nat_eq n (n + suc k) || false) (is_named rest (n + suc k)) behind
      | false ↦ behind
    ])

pub candidates_by-dead : (p : MergePolicy) (ss : List SegmentSize) (index : ℕ) (s : SegmentSize) → slice_get ss index ≡ Some s →
    is_mostly_dead p.dead s ≡ true → is_named (candidates_by p ss) index ≡ true
candidates_by-dead p ss index s e dead =
    let found = together p (live_sizes ss) in
    let more = alone p.dead found ss in
    let has : List ℕ → Bool = λ candidate. list_any (λ named. nat_eq named index) candidate in
    list_any-append has found more
    ∙ (elim (is_named found index) as (λ b. is_named found index ≡ b → (b || is_named more index) ≡ true) [
      | true ↦ λ is. refl
      | false ↦ λ is.
          let at : 0 + index ≡ index = omega arith in
          let alone_here : is_alone p.dead found (index, s) ≡ true = ap (λ b. b && not (is_named found index)) dead ∙ ap not is in
          ap (is_named more) (sym at) ∙ alone_has p.dead found 0 index s ss e (ap (λ m. is_alone p.dead found (m, s)) at ∙ alone_here)
    ] refl)

-- a segment has no more deleted documents than documents
alone_none : (found : List (List ℕ)) (n : ℕ) (ss : List SegmentSize) → alone_from 100 found n ss ≡ []
alone_none found n [] = refl
alone_none found n (s ∷ ss) =
    let rest = alone_from 100 found (n + 1) ss in
    let no : is_mostly_dead 100 s ≡ false = grind (arith, nat_tests) in
    let here : is_alone 100 found (n, s) ≡ false = ap (λ b. b && not (is_named found n)) no in
    alone-cons 100 found n s ss ∙ ap (λ b. cond b ((n ∷ []) ∷ rest) rest) here ∙ alone_none found (n + 1) ss

pub candidates_by-usual : (ss : List SegmentSize) → candidates_by usual ss ≡ candidates (live_sizes ss)
candidates_by-usual ss =
    let found = candidates (live_sizes ss) in
    ap (λ more. found ++ more) (alone_none found 0 ss) ∙ append-nil found
