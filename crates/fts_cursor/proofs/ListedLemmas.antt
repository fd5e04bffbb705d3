-- Documents that are in memory: what is left of them, and which of lists they are.
use Rattle.std.proofs.Common.{◌≡◌, ℕ, zero, suc, ◌+◌, ◌-◌, ◌<◌, ◌≤◌, true, ◌==◌, ◌&&◌, ◌||◌, nat_le, Option, Some, None, List, [], ◌∷◌, Contains, length, drop}
use Rattle.std.proofs.Common.{get_or, refl, sym, ap, ap₂, subst, ◌∙◌, inl, inr, arith}
use Rattle.std.specs.List.{flat_map, range_with_len, slice_get}
use Rattle.std.specs.List.Sorted.{IsStrictlyIncreasing}
use Rattle.std.proofs.lemmas.Bool.{and_parts, cases_Bool, cases_lt, eqb-true, false≢true, le-leb, leb-true}
use Rattle.std.proofs.lemmas.List.Folds.{list_any-append}
use Rattle.std.proofs.lemmas.List.{drop-drop, get_or-drop, length-drop}
use Rattle.std.proofs.lemmas.Option.{get_or_from_slice_get, slice_get-get_or, slice_get_within}
use Rattle.std.proofs.Math.Bool.{or-true}
use Rattle.fts_postings.specs.Sets.{has, in_some, union}
use Rattle.fts_postings.specs.Remaining.{IsPlaceOf, at_least}
use Rattle.fts_postings.specs.Windows.{passing}
use Rattle.fts_postings.proofs.SetLemmas.{is_itself}
use Rattle.fts_postings.proofs.PassingLemmas.{Rises-drop, Rises-passing}
use Rattle.fts_postings.proofs.RemainingLemmas.{at_least_place, increasing-from_Rises}
use Rattle.fts_postings.proofs.UnionLemmas.{Rises-union, has-union}
use Rattle.fts_segment.specs.Between.{AreBetween}
use Rattle.fts_pack.specs.column.Column.{is_within}
use Rattle.fts_sets.specs.Leaves.{has_within}
use Rattle.fts_sets.proofs.SetLemmas.{has-filter, has-range, past-range, same_members}
use Rattle.fts_pack.proofs.DocumentsLemmas.{Rises-from_increasing}

-- what is left rises too
pub rises_left : (at : ℕ) (xs : List ℕ) → IsStrictlyIncreasing xs → IsStrictlyIncreasing (drop at xs)
rises_left at xs up = let r = Rises-drop at 0 xs (Rises-from_increasing xs up) in increasing-from_Rises r.0 (drop at xs) r.1

-- what is left from a target on begins at its place
pub left_from : (xs : List ℕ) (at to target place : ℕ) → IsStrictlyIncreasing xs → to ≡ length xs → at < length xs →
    IsPlaceOf (λ k. get_or xs k 0) at to target place → drop place xs ≡ at_least target (drop at xs)
left_from xs at to target place up end inside is =
    let k = place - at in
    let e : at + k ≡ place = omega (arith, is.low_within) in
    let r = Rises-drop at 0 xs (Rises-from_increasing xs up) in
    let size = length-drop at xs in
    let before : 0 < k → get_or (drop at xs) (k - 1) 0 < target = λ some.
    let f : at + (k - 1) ≡ place - 1 = omega (arith, some, is.low_within) in
    subst (λ x. x < target) (sym (get_or-drop at xs (k - 1) 0 ∙ ap (λ i. get_or xs i 0) f)) (is.before (omega (arith, some))) in
    let here : k < length (drop at xs) → target ≤ get_or (drop at xs) k 0 = λ less.
    subst (λ x. target ≤ x) (sym (get_or-drop at xs k 0 ∙ ap (λ i. get_or xs i 0) e)) (is.here (omega (arith, less, size, e, end))) in
    sym (at_least_place target r.0 (drop at xs) k r.1 (omega (arith, size, is.high_within, end)) before here ∙ drop-drop k at xs ∙ ap (λ n. drop n xs) e)

-- a member, and whether there is one
pub Contains-from_has : (xs : List ℕ) (d : ℕ) → has xs d ≡ true → Contains xs d
Contains-from_has [] d h = absurd (false≢true h)
Contains-from_has (x ∷ xs) d h = elim (cases_Bool (x == d)) [
  | inl same ↦ (0, omega arith, eqb-true x d same)
  | inr other ↦ let rest = Contains-from_has xs d (sym (ap (λ b. b || has xs d) other) ∙ h) in (suc rest.0, omega (arith, rest.1), rest.2)
]

pub has-from_Contains : (xs : List ℕ) (d : ℕ) → Contains xs d → has xs d ≡ true
has-from_Contains [] d (k, less, is) = absurd (omega (arith, less))
has-from_Contains (x ∷ xs) d (zero, less, is) = let same : x ≡ d = is in ap (λ y. (y == d) || has xs d) same ∙ ap (λ b. b || has xs d) (is_itself d)
has-from_Contains (x ∷ xs) d (suc k, less, is) = ap (λ b. (x == d) || b) (has-from_Contains xs d (k, omega (arith, less), is)) ∙ or-true (x == d)

has-joined : (lists : List (List ℕ)) (d : ℕ) → has (flat_map (λ list. list) lists) d ≡ in_some lists d
has-joined [] d = refl
has-joined (xs ∷ lists) d = list_any-append (λ x. x == d) xs (flat_map (λ list. list) lists) ∙ ap (λ b. has xs d || b) (has-joined lists d)

list_with : (lists : List (List ℕ)) (d : ℕ) → in_some lists d ≡ true → (k : ℕ) × (k < length lists) × Contains (get_or lists k []) d
list_with [] d h = absurd (false≢true h)
list_with (xs ∷ lists) d h = elim (cases_Bool (has xs d)) [
  | inl here ↦ (0, omega arith, Contains-from_has xs d here)
  | inr other ↦ let rest = list_with lists d (sym (ap (λ b. b || in_some lists d) other) ∙ h) in (suc rest.0, omega (arith, rest.1), rest.2)
]

with_list : (lists : List (List ℕ)) (d k : ℕ) → k < length lists → Contains (get_or lists k []) d → in_some lists d ≡ true
with_list [] d k less there = absurd (omega (arith, less))
with_list (xs ∷ lists) d zero less there = ap (λ b. b || in_some lists d) (has-from_Contains xs d there)
with_list (xs ∷ lists) d (suc k) less there = ap (λ b. has xs d || b) (with_list lists d k (omega (arith, less)) there) ∙ or-true (has xs d)

-- a number within bounds is there
within_there : (low high : ℕ) (v : Option ℕ) → is_within low high v ≡ true → (x : ℕ) × (v ≡ Some x) × (low ≤ x) × (x ≤ high)
within_there low high None h = absurd (false≢true h)
within_there low high (Some x) h = let both = and_parts (nat_le low x) (nat_le x high) h in (x, refl, leb-true low x both.0, leb-true x high both.1)

there_within : (low high x : ℕ) → low ≤ x → x ≤ high → is_within low high (Some x) ≡ true
there_within low high x from to = ap₂ (λ a b. a && b) (le-leb low x from) (le-leb x high to)

-- the documents of lists are what these have together
pub lists_union : (documents : List ℕ) (lists : List (List ℕ)) → IsStrictlyIncreasing documents →
    ((d : ℕ) → Contains documents d → Contains (flat_map (λ list. list) lists) d) →
    ((d : ℕ) → Contains (flat_map (λ list. list) lists) d → Contains documents d) →
    documents ≡ union lists
lists_union documents lists up sound whole =
    same_members 0 documents (union lists) (Rises-from_increasing documents up) (Rises-union lists)
    (λ d. elim (cases_Bool (has documents d)) [
      | inl there ↦ there ∙ sym (has-union lists d ∙ sym (has-joined lists d) ∙ has-from_Contains (flat_map (λ list. list) lists) d
          (sound d (Contains-from_has documents d there)))
      | inr not_there ↦ elim (cases_Bool (in_some lists d)) [
        | inl some ↦ absurd (false≢true
            (sym not_there ∙ has-from_Contains documents d (whole d (Contains-from_has (flat_map (λ list. list) lists) d (has-joined lists d ∙ some)))))
        | inr none ↦ not_there ∙ sym (has-union lists d ∙ none)
      ]
    ])

module _ (column : List (Option ℕ)) (low high : ℕ) (lists : List (List ℕ)) (are : AreBetween column low high lists) where
  in_passing : (d x : ℕ) → slice_get column d ≡ Some (Some x) → low ≤ x → x ≤ high → has (passing (has_within low high column) 0 (length column)) d ≡ true
  in_passing d x is from to =
      let inside = slice_get_within column d (Some x) is in
      has-filter (has_within low high column) (range_with_len 0 (length column)) d
      ∙ ap₂ (λ a b. a && b) (has-range 0 (length column) d (omega arith) (omega (arith, inside)))
      (ap (is_within low high) (get_or_from_slice_get column d (Some x) None is) ∙ there_within low high x from to)

  from_passing : (d : ℕ) → has (passing (has_within low high column) 0 (length column)) d ≡ true → in_some lists d ≡ true
  from_passing d h =
      let both = and_parts (has (range_with_len 0 (length column)) d) (has_within low high column d)
      (sym (has-filter (has_within low high column) (range_with_len 0 (length column)) d) ∙ h) in
      let number = within_there low high (get_or column d None) both.1 in
      let inside : d < length column = elim (cases_lt d (length column)) [
        | inl less ↦ less
        | inr past ↦ absurd (false≢true (sym (past-range 0 (length column) d (omega (arith, past))) ∙ both.0))
      ] in
      let found = are.whole d number.0 (slice_get-get_or column d None inside ∙ ap Some number.1) number.2 number.3 in
      with_list lists d found.0 found.1 found.2

  -- the documents of the lists are those within the bounds
  pub lists_within : (documents : List ℕ) → IsStrictlyIncreasing documents → ((d : ℕ) → Contains documents d → Contains (flat_map (λ list. list) lists) d) →
      ((d : ℕ) → Contains (flat_map (λ list. list) lists) d → Contains documents d) →
      documents ≡ passing (has_within low high column) 0 (length column)
  lists_within documents up sound whole =
      same_members 0 documents (passing (has_within low high column) 0 (length column)) (Rises-from_increasing documents up)
      (Rises-passing (has_within low high column) 0 (length column))
      (λ d. elim (cases_Bool (has documents d)) [
        | inl there ↦
            let list = list_with lists d (sym (has-joined lists d) ∙ has-from_Contains (flat_map (λ list. list) lists) d
            (sound d (Contains-from_has documents d there))) in
            let number = are.sound list.0 d list.1 list.2 in
            there ∙ sym (in_passing d number.0 number.1 number.2 number.3)
        | inr not_there ↦ elim (cases_Bool (has (passing (has_within low high column) 0 (length column)) d)) [
          | inl passes ↦
              let joined = Contains-from_has (flat_map (λ list. list) lists) d (has-joined lists d ∙ from_passing d passes) in
              absurd (false≢true (sym not_there ∙ has-from_Contains documents d (whole d joined)))
          | inr fails ↦ not_there ∙ sym fails
        ]
      ])
