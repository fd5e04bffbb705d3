-- The end of a merge leaves the content: each live document of a source is moved once, and no other is.
use Rattle.std.proofs.Common.{◌≡◌, ◌≢◌, ◌<◌, ◌≤◌, ◌+◌, ◌^◌, ◌==◌, ◌||◌, inl, inr, ℕ, zero, suc, Bool, true, false, cond, not, Option, Some, None, List, [], ◌∷◌}
use Rattle.std.proofs.Common.{◌++◌, length, get_or, map, filter, slice_get, All, AllPairs, Contains, subst, refl, sym, ap, ◌∙◌, arith}
use Rattle.std.specs.List.{AllByRecursion, flat_map}
use Rattle.std.specs.List.Sorted.{IsPermutation}
use Rattle.std.proofs.lemmas.Bool.{cases_order}
use Rattle.std.proofs.lemmas.Bool.Decides.{nat_tests}
use Rattle.std.proofs.lemmas.List.{append-nil, length-map}
use Rattle.std.proofs.lemmas.List.Elements.{recursion_from_All, All-append, All-filter, All-weaker, All-cons, All-nil, filter_passes}
use Rattle.std.proofs.lemmas.List.Sorted.{IsPermutation-refl, IsPermutation-trans, IsPermutation-cons, IsPermutation-middle, IsPermutation-append_left}
use Rattle.std.proofs.lemmas.List.Sorted.{IsPermutation-append_right, IsPermutation-append_comm}
use Rattle.std.proofs.lemmas.Option.{get_or_from_slice_get}
use Rattle.std.proofs.lemmas.Grind.{flat_map-append}
use Rattle.std.proofs.lemmas.Simd.{map-map}
use Rattle.fts_model.specs.declared.operation.Stamped.{Stamped}
use Rattle.fts_model.specs.Documents.{DocumentValue}
use Rattle.fts_model.specs.Operations.{StampsRise}
use Rattle.fts_model.proofs.Lists.{pairs_behind, pairs_front, Contains-cases, Contains-first, Contains-behind, Contains-none}
use Rattle.fts_segment.specs.Contents.{where_set}
use Rattle.fts_merge.specs.declared.origin.Origin.{Origin}
use Rattle.fts_snapshots.specs.Entries.{EntryValue, IsEntry, live_in, has_live, content}
use Rattle.fts_snapshots.specs.Merges.{is_among, without}
use Rattle.fts_snapshots.specs.MergedSegments.{MergedSegmentValue, IsMergedSegment, origins_of}
use Rattle.fts_snapshots.specs.Snapshots.{SnapshotValue, IsSnapshot}
use Rattle.fts_snapshots.specs.Successors.{is_set, Fits}
use Rattle.fts_snapshots.specs.LateMerges.{is_live_at, ended, after_end}
use Rattle.fts_snapshots.proofs.OrderLemmas.{rises_from_pairs, pairs_from_rises, rises_filtered, rises_joined, in_stamp_order-permutation, All-weaker_by}
use Rattle.fts_snapshots.proofs.EntryLemmas.{live_in-filter}
use Rattle.fts_snapshots.proofs.CommitLemmas.{by_stamp}
use Rattle.fts_snapshots.proofs.MergeLemmas.{ById}

-- no pair occurs twice
abbrev AreOnce : List (ℕ × ℕ) → Type 0
AreOnce [] = Unit
AreOnce (o ∷ os) = AllByRecursion (λ p. o ≢ p) os × AreOnce os

abbrev clear_bit : List Bool → ℕ → List Bool
clear_bit [] n = []
clear_bit (b ∷ bits) zero = false ∷ bits
clear_bit (b ∷ bits) (suc n) = b ∷ clear_bit bits n

-- a segment with the bit of a document cleared, if it is one of its own
abbrev cleared : ℕ × ℕ → EntryValue → EntryValue
cleared o e = record { id = e.id; segment = e.segment; live = cond (e.id == o.0) (clear_bit e.live o.1) e.live }

abbrev cleared_by : List (ℕ × ℕ) → EntryValue → EntryValue
cleared_by [] e = e
cleared_by (o ∷ os) e = cleared_by os (cleared o e)

abbrev doc_at : List EntryValue → ℕ → ℕ → Option (Stamped DocumentValue)
doc_at [] id n = None
doc_at (e ∷ es) id n = cond (e.id == id) (slice_get e.segment.documents n) (doc_at es id n)

set_elsewhere : (bits : List Bool) (n k : ℕ) → n ≢ k → is_set (clear_bit bits n) k ≡ is_set bits k
set_elsewhere [] n k h = refl
set_elsewhere (b ∷ bits) zero zero h = absurd (h refl)
set_elsewhere (b ∷ bits) zero (suc k) h = refl
set_elsewhere (b ∷ bits) (suc n) zero h = refl
set_elsewhere (b ∷ bits) (suc n) (suc k) h = set_elsewhere bits n k (λ e. h (ap suc e))

set_there : (bits : List Bool) (n : ℕ) → is_set (clear_bit bits n) n ≡ false
set_there [] n = refl
set_there (b ∷ bits) zero = refl
set_there (b ∷ bits) (suc n) = set_there bits n

still_set : (bits : List Bool) (n k : ℕ) → is_set (clear_bit bits n) k ≡ true → is_set bits k ≡ true
still_set [] n k h = h
still_set (b ∷ bits) zero zero h = cc
still_set (b ∷ bits) zero (suc k) h = h
still_set (b ∷ bits) (suc n) zero h = h
still_set (b ∷ bits) (suc n) (suc k) h = still_set bits n k h

bit_out : {X : Type 0} (ds : List X) (bits : List Bool) (n : ℕ) (d : X) → is_set bits n ≡ true → slice_get ds n ≡ Some d →
    IsPermutation (where_set ds bits) (d ∷ where_set ds (clear_bit bits n))
bit_out [] bits n d h k = cc
bit_out (x ∷ ds) [] n d h k = cc
bit_out (x ∷ ds) (b ∷ bits) zero d h k =
    let same : d ≡ x = cc in
    subst (λ c. IsPermutation (cond c (x ∷ where_set ds bits) (where_set ds bits)) (d ∷ where_set ds bits)) (sym h)
    (subst (λ y. IsPermutation (x ∷ where_set ds bits) (y ∷ where_set ds bits)) (sym same) (IsPermutation-refl (x ∷ where_set ds bits)))
bit_out (x ∷ ds) (b ∷ bits) (suc n) d h k =
    let rest = bit_out ds bits n d h k in
    let left = where_set ds (clear_bit bits n) in
    elim b as (λ b. IsPermutation (cond b (x ∷ where_set ds bits) (where_set ds bits)) (d ∷ cond b (x ∷ left) left)) [
      | true ↦ IsPermutation-trans (x ∷ where_set ds bits) (x ∷ d ∷ left) (d ∷ x ∷ left) (IsPermutation-cons x (where_set ds bits) (d ∷ left) rest)
          (IsPermutation-middle (x ∷ []) d left)
      | false ↦ rest
    ]

bit_clear : {X : Type 0} (ds : List X) (bits : List Bool) (n : ℕ) → is_set bits n ≡ false → where_set ds (clear_bit bits n) ≡ where_set ds bits
bit_clear [] bits n h = refl
bit_clear (x ∷ ds) [] n h = refl
bit_clear (x ∷ ds) (b ∷ bits) zero h = ap (λ c. cond c (x ∷ where_set ds bits) (where_set ds bits)) (sym h)
bit_clear (x ∷ ds) (b ∷ bits) (suc n) h = ap (λ ys. cond b (x ∷ ys) ys) (bit_clear ds bits n h)

none_set : {X : Type 0} (ds : List X) (bits : List Bool) → ((n : ℕ) → is_set bits n ≡ true → ⊥) → where_set ds bits ≡ []
none_set [] bits h = refl
none_set (x ∷ ds) [] h = refl
none_set (x ∷ ds) (true ∷ bits) h = absurd (h 0 refl)
none_set (x ∷ ds) (false ∷ bits) h = none_set ds bits (λ n. h (suc n))

untouched : (o : ℕ × ℕ) (es : List EntryValue) → AllByRecursion (λ f. o.0 < f.id) es → map (cleared o) es ≡ es
untouched o [] a = refl
untouched o (e ∷ es) a =
    let other : (e.id == o.0) ≡ false = grind (arith, nat_tests, a.0) in
    ap (λ c. record { id = e.id; segment = e.segment; live = cond c (clear_bit e.live o.1) e.live } ∷ map (cleared o) es) other
    ∙ ap (λ fs. e ∷ fs) (untouched o es a.1)

-- clearing one bit removes one live document of segments
one_cleared : (o : ℕ × ℕ) (es : List EntryValue) (d : Stamped DocumentValue) → ById es → is_live_at es o.0 o.1 ≡ true → doc_at es o.0 o.1 ≡ Some d →
    IsPermutation (flat_map live_in es) (d ∷ flat_map live_in (map (cleared o) es))
one_cleared o [] d r h k = cc
one_cleared o (e ∷ es) d r h k =
    elim (e.id == o.0) as (λ c. (e.id == o.0) ≡ c → cond c (is_set e.live o.1) (is_live_at es o.0 o.1) ≡ true → cond c (slice_get e.segment.documents o.1)
    (doc_at es o.0 o.1) ≡ Some d →
    IsPermutation (live_in e ++ flat_map live_in es)
    (d ∷ (where_set e.segment.documents (cond c (clear_bit e.live o.1) e.live) ++ flat_map live_in (map (cleared o) es)))) [
      | true ↦ λ t h k.
          let same : e.id ≡ o.0 = grind (arith, nat_tests) in
          let stay = untouched o es (subst (λ n. AllByRecursion (λ (f : EntryValue). n < f.id) es) same r.0) in
          let left = where_set e.segment.documents (clear_bit e.live o.1) in
          subst (λ fs. IsPermutation (live_in e ++ flat_map live_in es) (d ∷ (left ++ flat_map live_in fs))) (sym stay)
          (IsPermutation-append_left (flat_map live_in es) (live_in e) (d ∷ left) (bit_out e.segment.documents e.live o.1 d h k))
      | false ↦ λ t h k.
          let rest = flat_map live_in (map (cleared o) es) in
          IsPermutation-trans (live_in e ++ flat_map live_in es) (live_in e ++ (d ∷ rest)) (d ∷ (live_in e ++ rest))
          (IsPermutation-append_right (live_in e) (flat_map live_in es) (d ∷ rest) (one_cleared o es d r.1 h k)) (IsPermutation-middle (live_in e) d rest)
    ] refl h k

none_cleared : (o : ℕ × ℕ) (es : List EntryValue) → ById es → is_live_at es o.0 o.1 ≡ false → flat_map live_in (map (cleared o) es) ≡ flat_map live_in es
none_cleared o [] r h = refl
none_cleared o (e ∷ es) r h =
    elim (e.id == o.0) as (λ c. (e.id == o.0) ≡ c → cond c (is_set e.live o.1) (is_live_at es o.0 o.1) ≡ false →
    where_set e.segment.documents (cond c (clear_bit e.live o.1) e.live) ++ flat_map live_in (map (cleared o) es) ≡ live_in e ++ flat_map live_in es) [
      | true ↦ λ t h.
          let same : e.id ≡ o.0 = grind (arith, nat_tests) in
          let stay = untouched o es (subst (λ n. AllByRecursion (λ (f : EntryValue). n < f.id) es) same r.0) in
          ap (λ fs. where_set e.segment.documents (clear_bit e.live o.1) ++ flat_map live_in fs) stay
          ∙ ap (λ ds. ds ++ flat_map live_in es) (bit_clear e.segment.documents e.live o.1 h)
      | false ↦ λ t h. ap (λ ds. live_in e ++ ds) (none_cleared o es r.1 h)
    ] refl h

same_pair : (o : ℕ × ℕ) (i k : ℕ) → o.0 ≡ i → o.1 ≡ k → o ≡ (i, k)
same_pair o i k p q = ap (λ x. (x, o.1)) p ∙ ap (λ y. (i, y)) q

live_elsewhere : (o : ℕ × ℕ) (es : List EntryValue) (p : ℕ × ℕ) → o ≢ p → is_live_at (map (cleared o) es) p.0 p.1 ≡ is_live_at es p.0 p.1
live_elsewhere o [] p h = refl
live_elsewhere o (e ∷ es) p h =
    elim (e.id == p.0) as (λ c. (e.id == p.0) ≡ c → cond c (is_set (cond (e.id == o.0) (clear_bit e.live o.1) e.live) p.1)
    (is_live_at (map (cleared o) es) p.0 p.1) ≡ cond c (is_set e.live p.1) (is_live_at es p.0 p.1)) [
      | true ↦ λ t.
          elim (e.id == o.0) as (λ b. (e.id == o.0) ≡ b → is_set (cond b (clear_bit e.live o.1) e.live) p.1 ≡ is_set e.live p.1) [
            | true ↦ λ u. let first : o.0 ≡ p.0 = grind (arith, nat_tests) in set_elsewhere e.live o.1 p.1 (λ q. h (same_pair o p.0 p.1 first q))
            | false ↦ λ _.
                refl
          ] refl
      | false ↦ λ t. live_elsewhere o es p h
    ] refl

doc_stays : (o : ℕ × ℕ) (es : List EntryValue) (i k : ℕ) → doc_at (map (cleared o) es) i k ≡ doc_at es i k
doc_stays o [] i k = refl
doc_stays o (e ∷ es) i k = ap (cond (e.id == i) (slice_get e.segment.documents k)) (doc_stays o es i k)

all_ids : (P : ℕ → Type 0) (o : ℕ × ℕ) (es : List EntryValue) → AllByRecursion (λ (e : EntryValue). P e.id) es →
    AllByRecursion (λ (e : EntryValue). P e.id) (map (cleared o) es)
all_ids P o [] a = tt
all_ids P o (e ∷ es) a = (a.0, all_ids P o es a.1)

ids_cleared : (o : ℕ × ℕ) (es : List EntryValue) → ById es → ById (map (cleared o) es)
ids_cleared o [] r = tt
ids_cleared o (e ∷ es) r = (all_ids (λ n. e.id < n) o es r.0, ids_cleared o es r.1)

-- the bits that documents of these origins have
abbrev bits_now : List EntryValue → List (ℕ × ℕ) → List Bool
bits_now es os = map (λ o. is_live_at es o.0 o.1) os

bits_elsewhere : (o : ℕ × ℕ) (es : List EntryValue) (os : List (ℕ × ℕ)) → AllByRecursion (λ p. o ≢ p) os → bits_now (map (cleared o) es) os ≡ bits_now es os
bits_elsewhere o es [] a = refl
bits_elsewhere o es (p ∷ os) a = ap (λ b. b ∷ bits_now (map (cleared o) es) os) (live_elsewhere o es p a.0)
    ∙ ap (λ bs. is_live_at es p.0 p.1 ∷ bs) (bits_elsewhere o es os a.1)

map_same : {X : Type 0} (xs : List X) → map (λ x. x) xs ≡ xs
map_same [] = refl
map_same (x ∷ xs) = ap (λ ys. x ∷ ys) (map_same xs)

-- each live document of these origins is that of the list
abbrev AreRight : List EntryValue → List (Stamped DocumentValue) → List (ℕ × ℕ) → Type 0
AreRight es ds os = (k : ℕ) (o : ℕ × ℕ) → slice_get os k ≡ Some o → is_live_at es o.0 o.1 ≡ true → doc_at es o.0 o.1 ≡ slice_get ds k

away : (o : ℕ × ℕ) (os : List (ℕ × ℕ)) (k : ℕ) (p : ℕ × ℕ) → AllByRecursion (λ p. o ≢ p) os → slice_get os k ≡ Some p → o ≢ p
away o [] k p a h = cc
away o (q ∷ os) zero p a h = let same : q ≡ p = cc in subst (λ r. o ≢ r) same a.0
away o (q ∷ os) (suc k) p a h = away o os k p a.1 h

taken_out : (ds : List (Stamped DocumentValue)) (os : List (ℕ × ℕ)) (es : List EntryValue) → length ds ≡ length os → ById es → AreOnce os → AreRight es ds os →
    IsPermutation (flat_map live_in es) (where_set ds (bits_now es os) ++ flat_map live_in (map (cleared_by os) es))
taken_out [] [] es l r a g =
    subst (λ fs. IsPermutation (flat_map live_in es) (flat_map live_in fs)) (sym (map_same es)) (IsPermutation-refl (flat_map live_in es))
taken_out [] (o ∷ os) es l r a g = absurd (omega (arith, l))
taken_out (d ∷ ds) [] es l r a g = absurd (omega (arith, l))
taken_out (d ∷ ds) (o ∷ os) es l r a g =
    let fs = map (cleared o) es in
    let right : AreRight fs ds os = λ k p h live. doc_stays o es p.0 p.1 ∙ g (suc k) p h (sym (live_elsewhere o es p (away o os k p a.0 h)) ∙ live) in
    let rest = taken_out ds os fs (omega (arith, l)) (ids_cleared o es r) a.1 right in
    let end = flat_map live_in (map (cleared_by (o ∷ os)) es) in
    let joined = subst (λ gs. IsPermutation (flat_map live_in fs) (where_set ds (bits_now fs os) ++ flat_map live_in gs))
    (map-map (cleared_by os) (cleared o) es) rest in
    let behind = subst (λ bs. IsPermutation (flat_map live_in fs) (where_set ds bs ++ end)) (bits_elsewhere o es os a.0) joined in
    elim (is_live_at es o.0 o.1) as (λ b. is_live_at es o.0 o.1 ≡ b → IsPermutation (flat_map live_in es)
    (cond b (d ∷ where_set ds (bits_now es os)) (where_set ds (bits_now es os)) ++ end)) [
      | true ↦ λ h. IsPermutation-trans (flat_map live_in es) (d ∷ flat_map live_in fs) (d ∷ (where_set ds (bits_now es os) ++ end))
          (one_cleared o es d r h (g 0 o refl h)) (IsPermutation-cons d (flat_map live_in fs) (where_set ds (bits_now es os) ++ end) behind)
      | false ↦ λ h. subst (λ xs. IsPermutation xs (where_set ds (bits_now es os) ++ end)) (none_cleared o es r h) behind
    ] refl

among_contained : (ids : List ℕ) (id : ℕ) → Contains ids id → is_among ids id ≡ true
among_contained [] id c = absurd (Contains-none id c)
among_contained (i ∷ ids) id c =
    elim (id == i) as (λ b. (id == i) ≡ b → (b || is_among ids id) ≡ true) [
      | true ↦ λ _. refl
      | false ↦ λ e. elim (Contains-cases i ids id c) as (λ _. is_among ids id ≡ true) [
        | inl same ↦ absurd (grind (arith, nat_tests))
        | inr k ↦ among_contained
            ids id k
      ]
    ] refl

contained_among : (ids : List ℕ) (id : ℕ) → is_among ids id ≡ true → Contains ids id
contained_among [] id h = cc
contained_among (i ∷ ids) id h =
    elim (id == i) as (λ b. (id == i) ≡ b → (b || is_among ids id) ≡ true → Contains (i ∷ ids) id) [
      | true ↦ λ e _. let same : i ≡ id = grind (arith, nat_tests) in subst (Contains (i ∷ ids)) same (Contains-first i ids i refl)
      | false ↦ λ _ k. Contains-behind i ids id (contained_among ids id k)
    ] refl h

still_cleared : (o : ℕ × ℕ) (e : EntryValue) (n : ℕ) → is_set (cleared o e).live n ≡ true → is_set e.live n ≡ true
still_cleared o e n = elim (e.id == o.0) as (λ b. is_set (cond b (clear_bit e.live o.1) e.live) n ≡ true → is_set e.live n ≡ true)
    [ true ↦ still_set e.live o.1 n | false ↦ λ h. h ]

still_cleared_by : (os : List (ℕ × ℕ)) (e : EntryValue) (n : ℕ) → is_set (cleared_by os e).live n ≡ true → is_set e.live n ≡ true
still_cleared_by [] e n h = h
still_cleared_by (o ∷ os) e n h = still_cleared o e n (still_cleared_by os (cleared o e) n h)

-- the bit of a document among the origins is clear
cleared_there : (os : List (ℕ × ℕ)) (e : EntryValue) (n k : ℕ) → slice_get os k ≡ Some (e.id, n) → is_set (cleared_by os e).live n ≡ true → ⊥
cleared_there [] e n k h s = cc
cleared_there (o ∷ os) e n zero h s =
    let same : o ≡ (e.id, n) = cc in
    let first : (e.id == o.0) ≡ true = let p = ap (λ (q : ℕ × ℕ). q.0) same in grind (arith, nat_tests, p) in
    let second : o.1 ≡ n = ap (λ (q : ℕ × ℕ). q.1) same in
    let down = still_cleared_by os (cleared o e) n s in
    let here = subst (λ b. is_set (cond b (clear_bit e.live o.1) e.live) n ≡ true) first down in
    let there = subst (λ m. is_set (clear_bit e.live m) n ≡ true) second here in
    let none = set_there e.live n in
    cc
cleared_there (o ∷ os) e n (suc k) h s = cleared_there os (cleared o e) n k h s

-- a segment of another number is unchanged
stays : (os : List (ℕ × ℕ)) (e : EntryValue) → AllByRecursion (λ o. o.0 ≢ e.id) os → cleared_by os e ≡ e
stays [] e a = refl
stays (o ∷ os) e a =
    let n = a.0 in
    let other : (e.id == o.0) ≡ false = grind (arith, nat_tests, n) in
    ap (λ c. cleared_by os (record { id = e.id; segment = e.segment; live = cond c (clear_bit e.live o.1) e.live })) other ∙ stays os e a.1

all_named : (ids : List ℕ) (os : List (ℕ × ℕ)) (id : ℕ) → ((k : ℕ) (o : ℕ × ℕ) → slice_get os k ≡ Some o → Contains ids o.0) → is_among ids id ≡ false →
    AllByRecursion (λ o. o.0 ≢ id) os
all_named ids [] id h n = tt
all_named ids (o ∷ os) id h n =
    (λ e. let there = among_contained ids o.0 (h 0 o refl) in let same = ap (is_among ids) e in cc, all_named ids os id (λ k. h (suc k)) n)

-- the live documents that are left without the origins are those of the other segments
left_behind : (ids : List ℕ) (os : List (ℕ × ℕ)) (es : List EntryValue) → ((k : ℕ) (o : ℕ × ℕ) → slice_get os k ≡ Some o → Contains ids o.0) →
    ((e : EntryValue) → Contains es e → Contains ids e.id → (n : ℕ) → is_set e.live n ≡ true → (k : ℕ) × (slice_get os k ≡ Some (e.id, n))) →
    flat_map live_in (map (cleared_by os) es) ≡ flat_map live_in (filter (λ e. not (is_among ids e.id)) es)
left_behind ids os [] h f = refl
left_behind ids os (e ∷ es) h f =
    let rest = left_behind ids os es h (λ g c. f g (Contains-behind e es g c)) in
    let others = filter (λ e. not (is_among ids e.id)) es in
    elim (is_among ids e.id) as (λ b. is_among ids e.id ≡ b → live_in (cleared_by os e) ++ flat_map live_in (map (cleared_by os) es) ≡ flat_map live_in
    (cond (not b) (e ∷ others) others)) [
      | true ↦ λ t.
          let none = none_set (cleared_by os e).segment.documents (cleared_by os e).live
          (λ n s. let at = f e (Contains-first e es e refl) (contained_among ids e.id t) n (still_cleared_by os e n s) in cleared_there os e n at.0 at.1
          s) in
          ap (λ ds. ds ++ flat_map live_in (map (cleared_by os) es)) none ∙ rest
      | false ↦ λ t.
          ap (λ g. live_in g ++ flat_map live_in (map (cleared_by os) es)) (stays os e (all_named ids os e.id h t)) ∙ ap (λ ds. live_in e ++ ds) rest
    ] refl

one_place : (os : List (ℕ × ℕ)) (k j : ℕ) (o : ℕ × ℕ) → AreOnce os → slice_get os k ≡ Some o → slice_get os j ≡ Some o → k ≡ j
one_place [] k j o a h i = cc
one_place (p ∷ os) zero zero o a h i = refl
one_place (p ∷ os) zero (suc j) o a h i = let same : p ≡ o = cc in absurd (away p os j o a.0 i same)
one_place (p ∷ os) (suc k) zero o a h i = let same : p ≡ o = cc in absurd (away p os k o a.0 h same)
one_place (p ∷ os) (suc k) (suc j) o a h i = ap suc (one_place os k j o a.1 h i)

-- a live document is in a segment
found_at : (es : List EntryValue) (id n : ℕ) → is_live_at es id n ≡ true → (e : EntryValue) × Contains es e × (e.id ≡ id) × (is_set e.live n ≡ true)
    × (doc_at es id n ≡ slice_get e.segment.documents n)
found_at [] id n h = cc
found_at (e ∷ es) id n h =
    elim (e.id == id) as (λ b. (e.id == id) ≡ b → cond b (is_set e.live n) (is_live_at es id n) ≡ true →
    (f : EntryValue) × Contains (e ∷ es) f × (f.id ≡ id) × (is_set f.live n ≡ true)
    × (cond b (slice_get e.segment.documents n) (doc_at es id n) ≡ slice_get f.segment.documents n)) [
      | true ↦ λ t k. (e, Contains-first e es e refl, grind (arith, nat_tests), k, refl)
      | false ↦ λ t k. let f = found_at es id n k in (f.0, Contains-behind e es f.0 f.1, f.2, f.3, f.4)
    ] refl h

-- the document of an origin: the number of its source, and its own number there
abbrev pub named_by : List ℕ → Origin → ℕ × ℕ
named_by ids origin = (get_or ids origin.source 0, origin.document)

pub got_mapped : {X Y : Type 0} (f : X → Y) (xs : List X) (k : ℕ) (x : X) → slice_get xs k ≡ Some x → slice_get (map f xs) k ≡ Some (f x)
got_mapped f [] k x h = cc
got_mapped f (y ∷ xs) zero x h = let same : y ≡ x = cc in ap (λ z. Some (f z)) same
got_mapped f (y ∷ xs) (suc k) x h = got_mapped f xs k x h

all_mapped : {X Y : Type 0} (P : Y → Type 0) (f : X → Y) (xs : List X) → AllByRecursion (λ x. P (f x)) xs → AllByRecursion P (map f xs)
all_mapped P f [] a = tt
all_mapped P f (x ∷ xs) a = (a.0, all_mapped P f xs a.1)

pub all_got : {X : Type 0} (P : X → Type 0) (xs : List X) (k : ℕ) (x : X) → AllByRecursion P xs → slice_get xs k ≡ Some x → P x
all_got P [] k x a h = cc
all_got P (y ∷ xs) zero x a h = let same : y ≡ x = cc in subst P same a.0
all_got P (y ∷ xs) (suc k) x a h = all_got P xs k x a.1 h

-- a number among others has an index
pub place_in : (ids : List ℕ) (id : ℕ) → Contains ids id → (k : ℕ) × (slice_get ids k ≡ Some id)
place_in [] id c = absurd (Contains-none id c)
place_in (i ∷ ids) id c =
    elim (Contains-cases i ids id c) as (λ _. (k : ℕ) × (slice_get (i ∷ ids) k ≡ Some id))
    [ inl same ↦ (0, ap (λ j. Some j) same) | inr k ↦ let rest = place_in ids id k in (suc rest.0, rest.1) ]

contains_index : (ids : List ℕ) (k : ℕ) → k < length ids → Contains ids (get_or ids k 0)
contains_index [] k l = absurd (omega (arith, l))
contains_index (i ∷ ids) zero l = Contains-first i ids i refl
contains_index (i ∷ ids) (suc k) l = Contains-behind i ids (get_or ids k 0) (contains_index ids k (omega (arith, l)))

same_origin : (ids : List ℕ) (o p : Origin) → AllPairs (λ a b. a ≢ b) ids → o.source < length ids → p.source < length ids → named_by ids o ≡ named_by ids p →
    o ≡ p
same_origin ids o p d l m e =
    let first : get_or ids o.source 0 ≡ get_or ids p.source 0 = ap (λ (q : ℕ × ℕ). q.0) e in
    let source : o.source ≡ p.source = elim (cases_order o.source p.source) [
      | inl same ↦ same
      | inr (inl lower) ↦ absurd (d o.source p.source 0 lower m first)
      | inr (inr higher) ↦ absurd (d p.source o.source 0 higher l (sym first))
    ] in
    let document : o.document ≡ p.document = ap (λ (q : ℕ × ℕ). q.1) e in
    let change : ℕ → ℕ → Origin = λ s n. record { source = s; document = n } in
    ap (λ s. change s o.document) source ∙ ap (change p.source) document

-- if no origin occurs twice, no document of a source does
once_named : (ids : List ℕ) (os : List Origin) → AllPairs (λ a b. a ≢ b) ids → AllByRecursion (λ (o : Origin). o.source < length ids) os →
    AllPairs (λ a b. a ≢ b) os →
    AreOnce (map (named_by ids) os)
once_named ids [] d n p = tt
once_named ids (o ∷ os) d n p =
    (apart os n.1 (recursion_from_All (λ q. o ≢ q) os (pairs_front (λ a b. a ≢ b) o os p)), once_named ids os d n.1 (pairs_behind (λ a b. a ≢ b) o os p)) where
      apart : (qs : List Origin) → AllByRecursion (λ (q : Origin). q.source < length ids) qs → AllByRecursion (λ q. o ≢ q) qs →
          AllByRecursion (λ q. named_by ids o ≢ q) (map (named_by ids) qs)
      apart [] ls ne = tt
      apart (q ∷ qs) ls ne = ((λ e. ne.0 (same_origin ids o q d n.0 ls.0 e)), apart qs ls.1 ne.1)

-- the sources of the origins
pub sources_named : (m : MergedSegmentValue) → IsMergedSegment m → AllByRecursion (λ (o : Origin). o.source < length m.ids) m.merged.origins
sources_named m w =
    All-weaker_by (λ (o : Origin). o.source < m.merged.sources) (λ o. o.source < length m.ids) (λ o h. omega (arith, h, w.sources)) m.merged.origins
    (recursion_from_All (λ (o : Origin). o.source < m.merged.sources) m.merged.origins w.merged.named)

origins_named : (m : MergedSegmentValue) → IsMergedSegment m → (k : ℕ) (o : ℕ × ℕ) → slice_get (origins_of m) k ≡ Some o → Contains m.ids o.0
origins_named m w k o h =
    all_got (λ (p : ℕ × ℕ). Contains m.ids p.0) (origins_of m) k o
    (all_mapped (λ (p : ℕ × ℕ). Contains m.ids p.0) (named_by m.ids) m.merged.origins
    (All-weaker_by (λ (o : Origin). o.source < length m.ids) (λ o. Contains m.ids (get_or m.ids o.source 0)) (λ o l. contains_index m.ids o.source l)
    m.merged.origins (sources_named m w)))
    h

-- each live document of a source has an origin, with the document at its index
found_in : (m : MergedSegmentValue) (s : SnapshotValue) → Fits m s → (e : EntryValue) → Contains s.entries e → Contains m.ids e.id → (n : ℕ) →
    is_set e.live n ≡ true →
    (k : ℕ) × (slice_get (origins_of m) k ≡ Some (e.id, n)) × (slice_get m.merged.segment.documents k ≡ slice_get e.segment.documents n)
found_in m s f e c named n h =
    let at = place_in m.ids e.id named in
    let found = f.mapped e at.0 n c at.1 h in (
      found.0,
      got_mapped (named_by m.ids) m.merged.origins found.0 (record { source = at.0; document = n }) found.1
          ∙ ap (λ (i : ℕ). Some (i, n)) (get_or_from_slice_get m.ids at.0 e.id 0 at.1),
      found.2,
    )

right_documents : (m : MergedSegmentValue) (s : SnapshotValue) → IsMergedSegment m → Fits m s → AreRight s.entries m.merged.segment.documents (origins_of m)
right_documents m s w f k o h live =
    let at = found_at s.entries o.0 o.1 live in
    let named = subst (Contains m.ids) (sym at.2) (origins_named m w k o h) in
    let mapped = found_in m s f at.0 at.1 named o.1 at.3 in
    let once = once_named m.ids m.merged.origins w.different (sources_named m w) w.merged.once in
    let same = one_place (origins_of m) mapped.0 k o once (mapped.1 ∙ ap (λ id. Some (id, o.1)) at.2) h in
    at.4 ∙ sym mapped.2 ∙ ap (slice_get m.merged.segment.documents) same

-- the content is unchanged
pub content-ended : (m : MergedSegmentValue) (s : SnapshotValue) → IsMergedSegment m → IsSnapshot s → Fits m s →
    content (after_end m s).entries ≡ content s.entries
content-ended m s w i f =
    let es = s.entries in
    let os = origins_of m in
    let documents = m.merged.segment.documents in
    let kept = without es m.ids in
    let new = where_set documents (bits_now es os) in
    let one = ended s.next_id m es in
    let paired : length documents ≡ length os = sym w.merged.paired ∙ sym (length-map m.merged.origins (named_by m.ids)) in
    let rising = rises_from_pairs (λ (e : EntryValue). e.id) es i.ids in
    let once = once_named m.ids m.merged.origins w.different (sources_named m w) w.merged.once in
    let out = taken_out documents os es paired rising once (right_documents m s w f) in
    let left = left_behind m.ids os es (origins_named m w) (λ e c n k h. let at = found_in m s f e c n k h in (at.0, at.1)) in
    let moved = subst (λ ds. IsPermutation (flat_map live_in es) (new ++ ds)) left out in
    let whole = flat_map-append live_in kept (filter has_live (one ∷ []))
    ∙ ap (λ ds. flat_map live_in kept ++ ds) (live_in-filter (one ∷ []) ∙ append-nil new) in
    in_stamp_order-permutation (flat_map live_in es) (flat_map live_in (after_end m s).entries) (by_stamp (content es) i.stamps)
    (subst (IsPermutation (flat_map live_in es)) (sym whole)
    (IsPermutation-trans (flat_map live_in es) (new ++ flat_map live_in kept) (flat_map live_in kept ++ new) moved
    (IsPermutation-append_comm new (flat_map live_in kept))))

-- the end of a merge leaves a snapshot
pub snapshot_after_end : (m : MergedSegmentValue) (s : SnapshotValue) → IsMergedSegment m → IsSnapshot s → Fits m s → m.merged.segment.schema ≡ s.schema →
    s.next_id + 1 ≤ 2 ^ 62 → IsSnapshot (after_end m s)
snapshot_after_end m s w i f schema room =
    let kept = without s.entries m.ids in
    let test : EntryValue → Bool = λ e. not (is_among m.ids e.id) in
    let one = ended s.next_id m s.entries in
    let last = filter has_live (one ∷ []) in
    let rank : EntryValue → ℕ = λ e. e.id in
    let below = All-filter test (λ (e : EntryValue). e.id < s.next_id) s.entries i.below in
    let and_one : (P : EntryValue → Type 0) → All P s.entries → P one → All P (kept ++ last) =
    λ P a b. All-append P kept last (All-filter test P s.entries a) (All-filter has_live P (one ∷ []) (All-cons P one [] b (All-nil P))) in
    let bits : length one.live ≡ length m.merged.segment.documents = length-map (origins_of m) (λ (o : ℕ × ℕ). is_live_at s.entries o.0 o.1)
    ∙ length-map m.merged.origins (named_by m.ids) ∙ w.merged.paired in
    record {
      ids =
          pairs_from_rises rank (kept ++ last)
          (rises_joined rank s.next_id kept last (rises_filtered rank test s.entries (rises_from_pairs rank s.entries i.ids))
          (recursion_from_All (λ (e : EntryValue). e.id < s.next_id) kept below)
          (rises_filtered rank has_live (one ∷ []) (tt, tt))
          (recursion_from_All (λ (e : EntryValue). s.next_id ≤ e.id) last (All-filter has_live (λ (e : EntryValue). s.next_id ≤ e.id) (one ∷ [])
          (All-cons (λ (e : EntryValue). s.next_id ≤ e.id) one [] (omega arith) (All-nil (λ (e : EntryValue). s.next_id ≤ e.id))))));
      below = and_one (λ e. e.id < s.next_id + 1) (All-weaker (λ (e : EntryValue). e.id < s.next_id) (λ e. e.id < s.next_id + 1) (λ e h. omega (arith, h))
          s.entries i.below) (omega arith);
      room = room;
      schemas = and_one (λ e. e.segment.schema ≡ s.schema) i.schemas schema;
      each = and_one IsEntry i.each (record { bits = bits; few = w.few });
      live = All-append (λ e. has_live e ≡ true) kept last (All-filter test (λ e. has_live e ≡ true) s.entries i.live) (filter_passes has_live (one ∷ []));
      stamps = subst StampsRise (sym (content-ended m s w i f)) i.stamps;
    }
