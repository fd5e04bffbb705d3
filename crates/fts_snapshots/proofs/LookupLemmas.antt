-- The indexes of segments, and the segments at them.
use Rattle.std.proofs.Common.{◌≡◌, ◌≢◌, ◌<◌, ◌≤◌, ◌==◌, ◌||◌, inl, inr, ℕ, zero, suc, true, false, cond, Option, Some, None, Result, Ok, Err, List, [], ◌∷◌}
use Rattle.std.proofs.Common.{length, get_or, slice_get, subst, refl, sym, ap, ◌∙◌, arith}
use Rattle.std.specs.Prelude.{MatchResult, MatchOption}
use Rattle.std.specs.Slice.{IsItemAt}
use denote.Ref.{Bor}
use Rattle.std.specs.List.{AllByRecursion}
use Rattle.std.specs.List.Sorted.{IsBinarySearchResult}
use Rattle.std.specs.Option.{is_some, option_map}
use Rattle.std.specs.Ordering.{nat_cmp}
use Rattle.std.proofs.lemmas.Bool.{cases_order}
use Rattle.std.proofs.lemmas.Bool.Decides.{nat_tests}
use Rattle.std.proofs.lemmas.List.Sorted.{searched}
use Rattle.std.proofs.lemmas.Option.{slice_get_within, get_or_from_slice_get}
use Rattle.fts_snapshots.specs.Entries.{EntryValue}
use Rattle.fts_snapshots.specs.Merges.{is_there, entry_at}
use Rattle.fts_snapshots.specs.MergedSegments.{ids_of}
use Rattle.fts_snapshots.specs.Snapshots.{IdsRise}
use Rattle.fts_snapshots.specs.Successors.{is_set}
use Rattle.fts_snapshots.specs.LateMerges.{is_live_at}
use Rattle.fts_snapshots.specs.Lookups.{place_in, is_live_there}
use Rattle.fts_snapshots.proofs.OrderLemmas.{Rises, rises_from_pairs, pairs_from_rises}
use Rattle.fts_snapshots.proofs.MergeLemmas.{ById}

-- the numbers rise
rise_ids : (es : List EntryValue) → ById es → Rises (λ n. n) (ids_of es)
rise_ids [] r = tt
rise_ids (e ∷ es) r = (above es r.0, rise_ids es r.1) where
  above : (fs : List EntryValue) → AllByRecursion (λ f. e.id < f.id) fs → AllByRecursion (λ n. e.id < n) (ids_of fs)
  above [] a = tt
  above (f ∷ fs) a = (a.0, above fs a.1)

got_above : (n : ℕ) (es : List EntryValue) (i : ℕ) → AllByRecursion (λ f. n < f.id) es → i < length (ids_of es) → n < get_or (ids_of es) i 0
got_above n [] i a l = absurd (omega (arith, l))
got_above n (e ∷ es) zero a l = a.0
got_above n (e ∷ es) (suc i) a l = got_above n es i a.1 (omega (arith, l))

place_found : (es : List EntryValue) (id i : ℕ) → ById es → i < length (ids_of es) → get_or (ids_of es) i 0 ≡ id → place_in es id ≡ Some i
place_found [] id i r l h = absurd (omega (arith, l))
place_found (e ∷ es) id zero r l h =
    let here : (e.id == id) ≡ true = grind (arith, nat_tests, h) in
    ap (λ b. cond b (Some 0) (option_map suc (place_in es id))) here
place_found (e ∷ es) id (suc i) r l h =
    let low = got_above e.id es i r.0 (omega (arith, l)) in
    let other : (e.id == id) ≡ false = grind (arith, nat_tests, low, h) in
    ap (λ b. cond b (Some 0) (option_map suc (place_in es id))) other ∙ ap (option_map suc) (place_found es id i r.1 (omega (arith, l)) h)

place_absent : (es : List EntryValue) (id : ℕ) → ((k : ℕ) → k < length (ids_of es) → get_or (ids_of es) k 0 ≢ id) → place_in es id ≡ None
place_absent [] id h = refl
place_absent (e ∷ es) id h =
    let first : e.id ≢ id = h 0 (omega arith) in
    let other : (e.id == id) ≡ false = grind (arith, nat_tests, first) in
    ap (λ b. cond b (Some 0) (option_map suc (place_in es id))) other ∙ ap (option_map suc) (place_absent es id (λ k l. h (suc k) (omega (arith, l))))

-- the result of a binary search
pub place_searched : (es : List EntryValue) (numbers : List ℕ) (id : ℕ) (r : Result ℕ ℕ) → IdsRise es → numbers ≡ ids_of es →
    IsBinarySearchResult (λ y. nat_cmp y id) numbers r →
    MatchResult r (λ i. Some i ≡ place_in es id) (λ i. None ≡ place_in es id)
place_searched es numbers id r rise is found = by_result r (searched xs id r (subst (λ ns. IsBinarySearchResult (λ y. nat_cmp y id) ns r) is found) up) where
  xs : List ℕ
  xs = ids_of es

  ids : ById es
  ids = rises_from_pairs (λ (e : EntryValue). e.id) es rise

  up : (i j : ℕ) → i ≤ j → j < length (ids_of es) → get_or (ids_of es) i 0 ≤ get_or (ids_of es) j 0
  up i j le within =
      let pairs = pairs_from_rises (λ (n : ℕ). n) (ids_of es) (rise_ids es ids) in
      elim (cases_order i j) [
        | inl same ↦ omega (arith, ap (λ k. get_or (ids_of es) k 0) same)
        | inr (inl lower) ↦ omega (arith, pairs i j 0 lower within)
        | inr (inr higher) ↦ absurd (omega arith)
      ]

  by_result : (r : Result ℕ ℕ) →
      MatchResult r (λ i. (i < length (ids_of es)) × (get_or (ids_of es) i 0 ≡ id))
      (λ i. (i ≤ length (ids_of es)) × ((k : ℕ) → k < i → get_or (ids_of es) k 0 < id) × ((k : ℕ) → i ≤ k → k < length (ids_of es) → id < get_or (ids_of es) k
      0)) →
      MatchResult r (λ i. Some i ≡ place_in es id) (λ i. None ≡ place_in es id)
  by_result (Ok i) s = sym (place_found es id i ids s.0 s.1)
  by_result (Err i) s =
      sym (place_absent es id (λ k within e. elim (cases_order k i) [
        | inl same ↦ omega (arith, s.2 k (omega arith) within, e)
        | inr (inl lower) ↦ omega (arith, s.1 k lower, e)
        | inr (inr higher) ↦ omega (arith, s.2 k (omega arith) within, e)
      ]))

some_mapped : (o : Option ℕ) → is_some (option_map suc o) ≡ is_some o
some_mapped None = refl
some_mapped (Some n) = refl

pub there_by_place : (es : List EntryValue) (id : ℕ) → is_some (place_in es id) ≡ is_there es id
there_by_place [] id = refl
there_by_place (e ∷ es) id =
    elim (e.id == id) as (λ b. is_some (cond b (Some 0) (option_map suc (place_in es id))) ≡ (b || is_there es id))
    [ true ↦ refl | false ↦ some_mapped (place_in es id) ∙ there_by_place es id ]

-- whether there is a segment of a number, by the list of those with it
pub there_none : (es : List EntryValue) (id : ℕ) → entry_at es id ≡ [] → is_there es id ≡ false
there_none [] id h = refl
there_none (e ∷ es) id h =
    elim (e.id == id) as (λ b. cond b (e ∷ []) (entry_at es id) ≡ [] → (b || is_there es id) ≡ false) [ true ↦ λ k. cc | false ↦ λ k. there_none es id k ] h

pub there_one : (es : List EntryValue) (id : ℕ) (entry : EntryValue) → entry_at es id ≡ entry ∷ [] → is_there es id ≡ true
there_one [] id entry h = cc
there_one (e ∷ es) id entry h =
    elim (e.id == id) as (λ b. cond b (e ∷ []) (entry_at es id) ≡ entry ∷ [] → (b || is_there es id) ≡ true)
    [ true ↦ λ k. refl | false ↦ λ k. there_one es id entry k ] h

pub entry_none : (es : List EntryValue) (id : ℕ) → place_in es id ≡ None → entry_at es id ≡ []
entry_none [] id h = refl
entry_none (e ∷ es) id h =
    elim (e.id == id) as (λ b. cond b (Some 0) (option_map suc (place_in es id)) ≡ None → cond b (e ∷ []) (entry_at es id) ≡ [])
    [ true ↦ λ k. cc | false ↦ λ k. entry_none es id (unmapped (place_in es id) k) ] h where
      unmapped : (o : Option ℕ) → option_map suc o ≡ None → o ≡ None
      unmapped None k = refl
      unmapped (Some n) k = cc

-- an index that is one larger
moved : (o : Option ℕ) (k : ℕ) → option_map suc o ≡ Some k → (j : ℕ) × (o ≡ Some j) × (k ≡ suc j)
moved None k h = cc
moved (Some j) k h = let same : suc j ≡ k = cc in (j, refl, sym same)

-- the segment at the index of a number
pub entry_some : (es : List EntryValue) (id k : ℕ) → place_in es id ≡ Some k → (e : EntryValue) × (slice_get es k ≡ Some e) × (entry_at es id ≡ e ∷ [])
entry_some [] id k h = cc
entry_some (e ∷ es) id k h =
    elim (e.id == id) as (λ b. cond b (Some 0) (option_map suc (place_in es id)) ≡ Some k → (f : EntryValue) × (slice_get (e ∷ es) k ≡ Some f)
    × (cond b (e ∷ []) (entry_at es id) ≡ f ∷ [])) [
      | true ↦ λ t. let first : 0 ≡ k = cc in (e, ap (slice_get (e ∷ es)) (sym first), refl)
      | false ↦ λ t.
          let m = moved (place_in es id) k t in
          let rest = entry_some es id m.0 m.1 in
          (rest.0, ap (slice_get (e ∷ es)) m.2 ∙ rest.1, rest.2)
    ] h

there_next : (e : EntryValue) (es : List EntryValue) (o : Option ℕ) (n : ℕ) → is_live_there (e ∷ es) (option_map suc o) n ≡ is_live_there es o n
there_next e es None n = refl
there_next e es (Some k) n = refl

pub live_by_place : (es : List EntryValue) (id n : ℕ) → is_live_there es (place_in es id) n ≡ is_live_at es id n
live_by_place [] id n = refl
live_by_place (e ∷ es) id n =
    elim (e.id == id) as (λ b. is_live_there (e ∷ es) (cond b (Some 0) (option_map suc (place_in es id))) n ≡ cond b (is_set e.live n) (is_live_at es id n))
    [ true ↦ refl | false ↦ there_next e es (place_in es id) n ∙ live_by_place es id n ]

-- the segment that is read at the index of a number
pub found_by_place : (es : List EntryValue) (id k : ℕ) (r : Option (Bor EntryValue)) → place_in es id ≡ Some k → IsItemAt es k r →
    MatchOption r (entry_at es id ≡ []) (λ e. entry_at es id ≡ e.now ∷ [])
found_by_place es id k (Some e) h is =
    let found = entry_some es id k h in
    found.2 ∙ ap (λ f. f ∷ []) (sym (is.1 ∙ get_or_from_slice_get es k found.0 e.now found.1))
found_by_place es id k None h is =
    let found = entry_some es id k h in
    let past : length es ≤ k = is.3 in
    absurd (omega (arith, slice_get_within es k found.0 found.1, past))
