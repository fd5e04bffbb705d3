-- Sorted names without duplicates.
use Rattle.std.proofs.Common.{◌≡◌, ◌≢◌, ◌+◌, ◌<◌, ◌≤◌, ℕ, zero, suc, true, false, cond, List, [], ◌∷◌, ◌++◌, Some, map, length, get_or, set, take, refl, sym}
use Rattle.std.proofs.Common.{ap, ap₂, subst, ◌∙◌, inl, inr, arith, All, Bor, bytes_eq, length-set, length-append, Ordering, Less, Equal, Greater}
use Rattle.std.specs.Prelude.{slice_get}
use Rattle.std.specs.Ordering.{nat_cmp, is_lt, ordering_then}
use Rattle.std.specs.Cmp.{IsTotalOrder, nat_cmp_total}
use Rattle.std.specs.Cmp.Lexicographic.{slice_cmp}
use Rattle.std.specs.List.{enumerate_from}
use Rattle.std.specs.List.Sorted.{IsSortedBy, IsPermutation}
use Rattle.std.proofs.lemmas.Bool.{cases_eq, cases_lt}
use Rattle.std.proofs.lemmas.Cmp.{nat_list_cmp_total, then_total, on_total}
use Rattle.std.proofs.lemmas.List.{take_more, take_all, map_push, get_or-map, length-map, get_or_append_left, get_or-set_same, get_or-set_other}
use Rattle.std.proofs.lemmas.List.Elements.{All-from_get_or, All-weaker, All-more, All-map}
use Rattle.std.proofs.lemmas.List.FromFn.{length-enumerate_from, get_or-enumerate_from}
use Rattle.std.proofs.lemmas.List.Sorted.{ranks_by, sorted_far, All-permutation, IsPermutation-sym}
use Rattle.std.proofs.lemmas.Option.{slice_get_within, slice_get-get_or, get_or_from_slice_get}
use Rattle.std.proofs.lemmas.Slice.Eq.{bytes_eq-Decides}
use Rattle.fts_segment.specs.Sorted.{Ascends, IsInOrder, ends_with, with_name}
use Rattle.fts_segment.proofs.FindLemmas.{same_from_equal, turned}
use Rattle.fts_segment.proofs.TermLogsLemmas.{Stand}
use Rattle.fts_segment.proofs.TermsLemmas.{slice_get_append, slice_get_last}

-- a name with its id, as it is sorted
abbrev pub Numbered : Type 0
Numbered = Bor (List ℕ) × ℕ

abbrev pub shown : Numbered → ℕ × List ℕ
shown e = (e.1, e.0.now)

abbrev pub name_of : Numbered → List ℕ
name_of e = e.0.now

-- names with their ids are ordered by name, and equal names by id
abbrev pub numbered_cmp : Numbered → Numbered → Ordering
numbered_cmp x y = ordering_then (slice_cmp nat_cmp x.0.now y.0.now) (nat_cmp x.1 y.1)

numbered_total : IsTotalOrder numbered_cmp
numbered_total = then_total (on_total name_of nat_list_cmp_total) (on_total (λ (e : Numbered). e.1) nat_cmp_total)

-- the loop that gives each name its id
pub shown-push : (names : List (List ℕ)) (es : List Numbered) (e : Numbered) (n : ℕ) → n < length names → e.1 ≡ n → e.0.now ≡ get_or names n [] →
    map shown es ≡ take n (enumerate_from 0 names) → map shown (es ++ e ∷ []) ≡ take (n + 1) (enumerate_from 0 names)
shown-push names es e n within number name so_far =
    let here : shown e ≡ get_or (enumerate_from 0 names) n (0, []) =
    ap (λ (k : ℕ). (k, e.0.now)) (let at : e.1 ≡ 0 + n = omega arith in at) ∙ ap (λ (q : List ℕ). (0 + n, q)) name
    ∙ sym (get_or-enumerate_from 0 names n (0, []) within) in
    map_push shown es e ∙ ap (λ xs. xs ++ shown e ∷ []) so_far ∙ ap (λ x. take n (enumerate_from 0 names) ++ x ∷ []) here
    ∙ sym (take_more (enumerate_from 0 names) n (0, []) (omega (arith, length-enumerate_from 0 names)))

in_order_at : (es : List Numbered) (d : Numbered) → IsSortedBy (λ x y. is_lt (numbered_cmp x y)) es → (i j : ℕ) → i < j → j < length es →
    slice_cmp nat_cmp (get_or (map name_of es) i []) (get_or (map name_of es) j []) ≢ Greater
in_order_at es d up i j lower within = λ greater.
    let x = get_or es i d in
    let y = get_or es j d in
    let first : get_or (map name_of es) i [] ≡ x.0.now = get_or-map name_of es i d [] (omega arith) in
    let second : get_or (map name_of es) j [] ≡ y.0.now = get_or-map name_of es j d [] within in
    let not_before : is_lt (numbered_cmp y x) ≡ false =
    sorted_far (λ (a b : Numbered). is_lt (numbered_cmp a b)) (ranks_by numbered_total (λ (a : Numbered). a)) es up i j d (omega arith) within in
    let less : slice_cmp nat_cmp y.0.now x.0.now ≡ Less = turned x.0.now y.0.now Greater (sym (ap₂ (slice_cmp nat_cmp) first second) ∙ greater) in
    let clash : true ≡ false = ap (λ (o : Ordering). is_lt (ordering_then o (nat_cmp y.1 x.1))) (sym less) ∙ not_before in cc

-- names that are sorted are in order
pub IsInOrder-sorted : (es : List Numbered) → IsSortedBy (λ x y. is_lt (numbered_cmp x y)) es → IsInOrder (map name_of es)
IsInOrder-sorted [] up i j lower within = absurd (omega arith)
IsInOrder-sorted (e ∷ es) up i j lower within = in_order_at (e ∷ es) e up i j lower (rw (length-map (e ∷ es) name_of) at within)

-- each of the sorted names has its id
right_numbers : (names : List (List ℕ)) (numbered : List (ℕ × List ℕ)) → IsPermutation (enumerate_from 0 names) numbered →
    All (λ p. slice_get names p.0 ≡ Some p.1) numbered
right_numbers names numbered moved =
    All-permutation (λ (p : ℕ × List ℕ). slice_get names p.0 ≡ Some p.1) (enumerate_from 0 names) numbered moved
    (All-from_get_or (λ (p : ℕ × List ℕ). slice_get names p.0 ≡ Some p.1) (enumerate_from 0 names) (0, []) (λ i within.
    let here : i < length names = omega (arith, length-enumerate_from 0 names) in
    let at : 0 + i ≡ i = omega arith in
    rw (get_or-enumerate_from 0 names i (0, []) here, at) (slice_get-get_or names i [] here)))

pub right_number : (names : List (List ℕ)) (es : List Numbered) (i : ℕ) (e : Numbered) → IsPermutation (enumerate_from 0 names) (map shown es) → i < length es →
    e ≡ get_or es i e → slice_get names e.1 ≡ Some e.0.now
right_number names es i e moved within is =
    let here : get_or (map shown es) i (shown e) ≡ shown e = get_or-map shown es i e (shown e) within ∙ ap shown (sym is) in
    subst (λ (p : ℕ × List ℕ). slice_get names p.0 ≡ Some p.1) here (right_numbers names (map shown es) moved i (shown e) (rw (length-map es shown) within))

last_is : (names : List (List ℕ)) (name : List ℕ) (k : ℕ) → suc k ≡ length names → ends_with names name ≡ true → slice_get names k ≡ Some name
last_is [] name k e h = absurd (omega (arith, e))
last_is (n ∷ []) name zero e h = ap Some ((bytes_eq-Decides n name).0 h)
last_is (n ∷ []) name (suc k) e h = absurd (omega (arith, e))
last_is (n ∷ m ∷ names) name zero e h = absurd (omega (arith, e))
last_is (n ∷ m ∷ names) name (suc k) e h = last_is (m ∷ names) name k (omega (arith, e)) h

-- names end with a name exactly if their last is it
pub ends_at : (names : List (List ℕ)) (q name : List ℕ) (k : ℕ) → suc k ≡ length names → slice_get names k ≡ Some q → ends_with names name ≡ bytes_eq q name
ends_at [] q name k e h = absurd (omega (arith, e))
ends_at (n ∷ []) q name zero e h = ap (λ x. bytes_eq x name) (let same : n ≡ q = cc in same)
ends_at (n ∷ []) q name (suc k) e h = absurd (omega (arith, e))
ends_at (n ∷ m ∷ names) q name zero e h = absurd (omega (arith, e))
ends_at (n ∷ m ∷ names) q name (suc k) e h = ends_at (m ∷ names) q name k (omega (arith, e)) h

before_or_same : (n name : List ℕ) → bytes_eq n name ≡ false → slice_cmp nat_cmp n name ≢ Greater → slice_cmp nat_cmp n name ≡ Less
before_or_same n name differ from = by (slice_cmp nat_cmp n name) refl
  where
    by : (o : Ordering) → slice_cmp nat_cmp n name ≡ o → slice_cmp nat_cmp n name ≡ Less
    by Less is = is
    by Equal is = absurd (let clash : true ≡ false = sym ((bytes_eq-Decides n name).1 (same_from_equal n name is)) ∙ differ in cc)
    by Greater is = absurd (from is)

last_before : (names : List (List ℕ)) (name : List ℕ) (k : ℕ) → suc k ≡ length names → ends_with names name ≡ false →
    slice_cmp nat_cmp (get_or names k []) name ≢ Greater → slice_cmp nat_cmp (get_or names k []) name ≡ Less
last_before [] name k e h from = absurd (omega (arith, e))
last_before (n ∷ []) name zero e h from = before_or_same n name h from
last_before (n ∷ []) name (suc k) e h from = absurd (omega (arith, e))
last_before (n ∷ m ∷ names) name zero e h from = absurd (omega (arith, e))
last_before (n ∷ m ∷ names) name (suc k) e h from = last_before (m ∷ names) name k (omega (arith, e)) h from

-- a name that was appended is the last
pub last_with : (names : List (List ℕ)) (name : List ℕ) (k : ℕ) → suc k ≡ length (with_name names name) → slice_get (with_name names name) k ≡ Some name
last_with names name k e =
    elim (ends_with names name) as (λ b. ends_with names name ≡ b → suc k ≡ length (cond b names (names ++ name ∷ [])) →
    slice_get (cond b names (names ++ name ∷ [])) k ≡ Some name) [
      | true ↦ λ ends long. last_is names name k long ends
      | false ↦ λ ends long.
          let at : k ≡ length names = omega (arith, long, length-append names (name ∷ [])) in
          ap (slice_get (names ++ name ∷ [])) at ∙ slice_get_last names name
    ] refl e

-- names with one more are not empty
pub some_with : (names : List (List ℕ)) (name : List ℕ) → 0 < length (with_name names name)
some_with [] name = omega arith
some_with (n ∷ names) name = elim (ends_with (n ∷ names) name) as (λ b. 0 < length (cond b (n ∷ names) ((n ∷ names) ++ name ∷ []))) [
  | true ↦ omega arith
  | false ↦ omega arith
]

-- an appended name leaves the others in place
keeps_with : (names : List (List ℕ)) (name : List ℕ) (k : ℕ) (q : List ℕ) → slice_get names k ≡ Some q → slice_get (with_name names name) k ≡ Some q
keeps_with names name k q h = elim (ends_with names name) as (λ b. slice_get (cond b names (names ++ name ∷ [])) k ≡ Some q) [
  | true ↦ h
  | false ↦ slice_get_append names (name ∷ []) k q h
]

pushed_last : (names : List (List ℕ)) (name : List ℕ) (k : ℕ) → k ≡ length names → get_or (names ++ name ∷ []) k [] ≡ name
pushed_last names name k at = ap (λ n. get_or (names ++ name ∷ []) n []) at ∙ get_or_from_slice_get (names ++ name ∷ []) (length names) name []
    (slice_get_last names name)

-- ascending names ascend with one more that is after them all
Ascends-push : (names : List (List ℕ)) (name : List ℕ) → Ascends names → ((k : ℕ) → k < length names → slice_cmp nat_cmp (get_or names k []) name ≡ Less) →
    Ascends (names ++ name ∷ [])
Ascends-push names name up below i j lower within = elim (cases_lt j (length names)) [
  | inl inner ↦
      let before : i < length names = omega arith in
      rw (get_or_append_left names (name ∷ []) [] i before, get_or_append_left names (name ∷ []) [] j inner) (up i j lower inner)
  | inr outer ↦
      let at : j ≡ length names = omega (arith, length-append names (name ∷ [])) in
      let before : i < length names = omega arith in
      rw (get_or_append_left names (name ∷ []) [] i before, pushed_last names name j at) (below i before)
]

-- a name that no name is after, and that is not the last, is after them all
all_before : (names : List (List ℕ)) (name : List ℕ) → Ascends names → ends_with names name ≡ false →
    ((k : ℕ) → k < length names → slice_cmp nat_cmp (get_or names k []) name ≢ Greater) →
    (k : ℕ) → k < length names → slice_cmp nat_cmp (get_or names k []) name ≡ Less
all_before names name up ends from k within = last (length names) refl
  where
    last : (n : ℕ) → length names ≡ n → slice_cmp nat_cmp (get_or names k []) name ≡ Less
    last zero long = absurd (omega (arith, long, within))
    last (suc m) long =
        let behind = last_before names name m (sym long) ends (from m (omega (arith, long))) in
        elim (cases_lt k m) [
          | inl lower ↦ nat_list_cmp_total.trans (get_or names k []) (get_or names m []) name (up k m lower (omega (arith, long))) behind
          | inr higher ↦ let same : m ≡ k = omega (arith, long, within, higher) in subst (λ n. slice_cmp nat_cmp (get_or names n []) name ≡ Less) same behind
        ]

-- the name of an id is at its index
abbrev pub Stands : List (List ℕ) → List (List ℕ) → List ℕ → ℕ → Type 0
Stands names different ordinals n = (q : List ℕ) × (slice_get different (get_or ordinals n 0) ≡ Some q) × (slice_get names n ≡ Some q)

-- the first of the sorted names, without duplicates, none of which is after those that are left
pub record IsSorting (names : List (List ℕ)) (es : List Numbered) (i : ℕ) (different : List (List ℕ)) (ordinals : List ℕ) : Type 0 where
  pub count : length ordinals ≡ length names
  pub ascends : Ascends different
  pub up_to : (k j : ℕ) → k < length different → i ≤ j → j < length es → slice_cmp nat_cmp (get_or different k []) (get_or (map name_of es) j []) ≢ Greater
  pub stand : All (λ e. Stands names different ordinals e.1) (take i es)

pub IsSorting-next : (names : List (List ℕ)) (es : List Numbered) (i : ℕ) (e : Numbered) (different : List (List ℕ)) (ordinals : List ℕ) (last : ℕ) →
    i < length es → e ≡ get_or es i e → slice_get names e.1 ≡ Some e.0.now →
    IsInOrder (map name_of es) → suc last ≡ length (with_name different e.0.now) → IsSorting names es i different ordinals →
    IsSorting names es (i + 1) (with_name different e.0.now) (set ordinals e.1 last)
IsSorting-next names es i e different ordinals last within is right in_order long s =
    let name = e.0.now in
    let this : get_or (map name_of es) i [] ≡ name = get_or-map name_of es i e [] within ∙ ap name_of (sym is) in
    let inside : e.1 < length ordinals = omega (arith, s.count, slice_get_within names e.1 name right) in
    let more = with_name different name in
    let placed = set ordinals e.1 last in
    let here : slice_get more (get_or placed e.1 0) ≡ Some name = ap (slice_get more) (get_or-set_same ordinals e.1 last 0 inside)
    ∙ last_with different name last long in
    let not_behind : (k : ℕ) → k < length different → slice_cmp nat_cmp (get_or different k []) name ≢ Greater =
    λ k below. subst (λ q. slice_cmp nat_cmp (get_or different k []) q ≢ Greater) this (s.up_to k i below (omega arith) within) in
    record {
      count = length-set ordinals e.1 last ∙ s.count;
      ascends = elim (ends_with different name) as (λ b. ends_with different name ≡ b → Ascends (cond b different (different ++ name ∷ []))) [
        | true ↦ λ ends. s.ascends
        | false ↦ λ ends. Ascends-push different name s.ascends (all_before different name s.ascends ends not_behind)
      ] refl;
      up_to = elim (ends_with different name) as (λ b. (k j : ℕ) → k < length (cond b different (different ++ name ∷ [])) → i + 1 ≤ j → j < length es →
          slice_cmp nat_cmp (get_or (cond b different (different ++ name ∷ [])) k []) (get_or (map name_of es) j []) ≢ Greater) [
            | true ↦ λ k j below from to. s.up_to k j below (omega (arith, from)) to
            | false ↦ λ k j below from to. elim (cases_lt k (length different)) [
              | inl inner ↦ rw (get_or_append_left different (name ∷ []) [] k inner) (s.up_to k j inner (omega (arith, from)) to)
              | inr outer ↦
                  let at : k ≡ length different = omega (arith, below, outer, length-append different (name ∷ [])) in
                  rw (pushed_last different name k at) (subst (λ q. slice_cmp nat_cmp q (get_or (map name_of es) j []) ≢ Greater) this
                  (in_order i j (omega (arith, from)) (rw (length-map es name_of) to)))
            ]
          ];
      stand = All-more (λ (x : Numbered). Stands names more placed x.1) es i e within
          (All-weaker (λ (x : Numbered). Stands names different ordinals x.1) (λ (x : Numbered). Stands names more placed x.1)
          (λ x st. elim (cases_eq x.1 e.1) [
            | inl same ↦ (name, ap (λ n. slice_get more (get_or placed n 0)) same ∙ here, ap (slice_get names) same ∙ right)
            | inr other ↦ (
              st.0,
              ap (slice_get more) (get_or-set_other ordinals e.1 x.1 last 0 other) ∙ keeps_with different name (get_or ordinals x.1 0) st.0
                  st.1,
              st.2,
            )
          ])
          (take i es) s.stand)
          (subst (λ (x : Numbered). Stands names more placed x.1) is (name, here, right));
    }

-- at the end each name has its index
pub Stand-sorted : (names : List (List ℕ)) (es : List Numbered) (i : ℕ) (different : List (List ℕ)) (ordinals : List ℕ) →
    IsPermutation (enumerate_from 0 names) (map shown es) → length es ≤ i →
    IsSorting names es i different ordinals → Stand names different ordinals
Stand-sorted names es i different ordinals moved all s n within =
    let P : ℕ × List ℕ → Type 0 = λ p. Stands names different ordinals p.0 in
    let of_all : All (λ (e : Numbered). P (shown e)) es = subst (All (λ (e : Numbered). P (shown e))) (take_all i es all) s.stand in
    let by_number = All-permutation P (map shown es) (enumerate_from 0 names) (IsPermutation-sym (enumerate_from 0 names) (map shown es) moved)
    (All-map P shown es of_all) in
    let at : 0 + n ≡ n = omega arith in
    let st : Stands names different ordinals n =
    subst (Stands names different ordinals) at (subst P (get_or-enumerate_from 0 names n (0, []) within)
    (by_number n (0, []) (omega (arith, within, length-enumerate_from 0 names)))) in
    st.1 ∙ sym st.2
