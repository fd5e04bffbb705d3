-- A cursor over a set, whose window has the documents of the set from where it is.
use Rattle.std.proofs.Common.{◌≡◌, ℕ, ◌+◌, ◌-◌, ◌^◌, ◌<◌, ◌≤◌, ◌&&◌, ◌||◌, Bool, true, false, nat_le, nat_lt, IfSome, Option, Some, None, List, [], ◌∷◌, ◌++◌, drop, length, get_or, min, take}
use Rattle.std.proofs.Common.{refl, sym, ap, ap₂, ◌∙◌, inl, inr, arith}
use Rattle.std.specs.List.{filter, range_with_len, slice_get}
use Rattle.std.proofs.Math.Seq.{drop-append_seam, take-append_seam}
use Rattle.std.proofs.lemmas.List.FromFn.{length-range_with_len}
use Rattle.fts_postings.proofs.PassingLemmas.{range-append}
use Rattle.std.proofs.Math.Bool.{and-false, or-false}
use Rattle.std.proofs.lemmas.Bool.{cases_lt, le-leb, le-ltb, lt-leb, lt-ltb}
use Rattle.fts_pack.specs.Documents.{Rises}
use Rattle.fts_postings.specs.Remaining.{at_least}
use Rattle.fts_postings.specs.Sets.{has}
use Rattle.fts_postings.specs.Takes.{Takes}
use Rattle.fts_postings.specs.declared.window.Window.{Window}
use Rattle.fts_postings.proofs.RemainingLemmas.{at_least_all, first-at_least, increasing-from_Rises}
use Rattle.fts_postings.proofs.SetLemmas.{Rises-lower, filter-at_least, has-below, has-at_least, has-before_first, has-first, has-none}
use Rattle.fts_sets.specs.Rows.{AreMarked, Holds, IsFound, IsSetCursor, found}
use Rattle.fts_sets.proofs.MarkLemmas.{found_behind, found_rises}
use Rattle.fts_sets.proofs.SetLemmas.{at_least-same, filter-full, front_left, has-from, has-range, length-from, drop_from, first_from, past-range, same_members, Rises-from, Rises-range, nothing_left, some_front, takes_front}

-- the end is found where none is left
pub end_found : (set : List ℕ) (at from docs : ℕ) (w : Window) → Rises 0 set → docs ≤ 2 ^ 32 → ((d : ℕ) → docs ≤ d → has set d ≡ false) → docs ≤ at →
    at_least at set ≡ at_least from set → IsFound set from (2 ^ 32) w
end_found set at from docs w up few past over before = record {
  rises = up;
  few = λ d far. past d (omega (arith, far, few));
  same = nothing_left set (2 ^ 32) up (λ d far. past d (omega (arith, far, few))) ∙ sym (nothing_left set at up (λ d far. past d (omega (arith, far, over))))
      ∙ before;
  end = omega arith;
  stands = λ low. absurd (omega (arith, low));
  holds = λ d high low. absurd (omega (arith, high, low, w.fits));
}

-- a window sought, and its first document
module _ (set : List ℕ) (at : ℕ) (a b c : Window) (up : Rises 0 set) (holds : Holds set at a) (sought_last : b.last ≡ a.last)
    (sought : found b ≡ at_least at (found a)) (last : c.last ≡ b.last) (same : found c ≡ found b) where
  there : (d : ℕ) → at ≤ d → d ≤ a.last → has (found b) d ≡ has set d
  there d high low = ap (λ xs. has xs d) sought ∙ has-at_least at (found a) d high ∙ holds d high low

  pub none_found : None ≡ slice_get (found b) 0 → at ≤ a.last → at_least (c.last + 1) set ≡ at_least at set
  none_found none within = at_least-same set at (c.last + 1) up (omega (arith, within, last, sought_last))
      (λ d high low. sym (there d high (omega (arith, low, last, sought_last))) ∙ has-none (found b) d none)

  module _ (doc : ℕ) (first : Some doc ≡ slice_get (found b) 0) where
    up_to : at ≤ doc
    up_to = first-at_least at (found a) doc (first ∙ ap (λ xs. slice_get xs 0) sought)

    within : doc ≤ a.last
    within = elim (cases_lt a.last doc) [
      | inl past ↦ absurd (let e : true ≡ false = sym (has-first (found b) doc first) ∙ found_behind b doc (omega (arith, past, sought_last)) in cc)
      | inr inside ↦ inside
    ]

    pub some_found : (docs from : ℕ) → docs ≤ 2 ^ 32 → ((d : ℕ) → docs ≤ d → has set d ≡ false) → doc < 2 ^ 32 → at_least at set ≡ at_least from set →
        IsFound set from doc c
    some_found docs from few past fits before = record {
      rises = up;
      few = λ d far. past d (omega (arith, far, few));
      same = at_least-same set at doc up up_to
          (λ d high low. sym (there d high (omega (arith, low, within))) ∙ has-before_first (found b) doc d (increasing-from_Rises 0 (found b) (found_rises b)) first low)
          ∙ before;
      end = omega (arith, fits);
      stands = λ low. sym (there doc up_to within) ∙ has-first (found b) doc first;
      holds = λ d high low. ap (λ xs. has xs d) same ∙ there d (omega (arith, high, up_to)) (omega (arith, low, last, sought_last));
    }

swap : (a b : Bool) → (a && b) ≡ (b && a)
swap true true = refl
swap true false = refl
swap false true = refl
swap false false = refl

right : (b : Bool) → (b && true) ≡ b
right true = refl
right false = refl

-- what is left of a set passes its window's part of it
module _ (set out : List ℕ) (at count next : ℕ) (a b w : Window) (up : Rises 0 set) (here : has set at ≡ true) (holds : Holds set at a) (within : at ≤ a.last)
    (sought_last : b.last ≡ a.last)
    (sought : found b ≡ at_least at (found a)) (last : w.last ≡ b.last) (takes : Takes (found b) (found w) out count) (next_is : next ≡ get_or out (count - 1) 0 + 1) where
  front : (d : ℕ) → has (found b) d ≡ (nat_lt d (b.last + 1) && (nat_le at d && has set d))
  front d = elim (cases_lt b.last d) [
    | inl past ↦ found_behind b d past ∙ sym (ap (λ x. x && (nat_le at d && has set d)) (le-ltb d (b.last + 1) (omega (arith, past))))
    | inr inside ↦
        ap (λ xs. has xs d) sought ∙ has-from at (found a) d ∙ elim (cases_lt d at) [
          | inl low ↦
              ap (λ x. has (found a) d && x) (lt-leb at d low) ∙ and-false (has (found a) d)
              ∙ sym (ap₂ (λ x y. x && (y && has set d)) (lt-ltb d (b.last + 1) (omega (arith, inside))) (lt-leb at d low))
          | inr high ↦
              ap₂ (λ x y. x && y) (holds d high (omega (arith, inside, sought_last))) (le-leb at d high) ∙ right (has set d)
              ∙ sym (ap₂ (λ x y. x && (y && has set d)) (lt-ltb d (b.last + 1) (omega (arith, inside))) (le-leb at d high))
        ]
  ]

  inside_at : at < b.last + 1
  inside_at = omega (arith, within, sought_last)

  pub some_window : 0 < count
  some_window = takes.some (some_front set (found b) out at (b.last + 1) count next up (found_rises b) front here inside_at)

  pub takes_window : Takes (at_least at set) (at_least next set) out count
  takes_window = takes_front set (found b) out at (b.last + 1) count next up (found_rises b) front here inside_at (found w) takes next_is

  pub holds_next : Holds set next w
  holds_next d high low = front_left set (found b) out at (b.last + 1) count next up (found_rises b) front here inside_at (found w) takes next_is d
      high (omega (arith, low, last))

-- a cursor at what was found
pub IsSetCursor-found : (set : List ℕ) (from at : ℕ) (total : Option ℕ) (w : Window) → IsFound set from at w → IfSome total (λ n. n ≡ length (at_least at set)) →
    IsSetCursor set total at w
IsSetCursor-found set from at total w f total_is = record {
  found_is = record { rises = f.rises; few = f.few; same = refl; end = f.end; stands = f.stands; holds = f.holds };
  total_is = total_is;
}

-- what remains has the documents of the set from there on
pub remaining_has : (set : List ℕ) (at : ℕ) (d : ℕ) → has (at_least at set) d ≡ (nat_le at d && has set d)
remaining_has set at d = has-from at set d ∙ swap (has set d) (nat_le at d)

-- nothing is marked where nothing is left
pub marked_none : (left : List ℕ) (w : Window) → left ≡ [] → AreMarked (has left) w w
marked_none left w none d =
    sym (ap (λ xs. has (found w) d || (nat_le d w.last && has xs d)) none ∙ ap (λ b. has (found w) d || b) (and-false (nat_le d w.last))
    ∙ or-false (has (found w) d))

-- where all documents remain, as many as there are numbers, the set is what remains
pub all_remain : (set : List ℕ) (at docs : ℕ) → Rises 0 set → ((d : ℕ) → docs ≤ d → has set d ≡ false) → docs ≡ length (at_least at set) → set ≡ at_least at set
all_remain set at docs up past is =
    let few = length-from set docs 0 up past in
    let all = at_least_all 0 0 set up (omega arith) in
    sym (filter-full (λ d. nat_le at d) set (omega (arith, few, ap length all, is)))

first_number : (xs : List ℕ) (d : ℕ) → Some d ≡ slice_get xs 0 → (d ≡ get_or xs 0 0) × (0 < length xs)
first_number [] d is = absurd (let e : Some d ≡ None = is in cc)
first_number (x ∷ xs) d is = (let e : d ≡ x = cc in e, omega arith)

-- a step passes the document where the cursor is
pub stepped : (set : List ℕ) (at : ℕ) (w : Window) → IsFound set at at w → at_least (at + 1) (at_least at set) ≡ drop 1 (at_least at set)
stepped set at w f = elim (cases_lt at (2 ^ 32)) [
  | inl stands ↦
      let first = first_number (at_least at set) at (first_from set at f.rises (f.stands stands)) in
      drop_from 0 (at_least at set) 1 (at + 1) (Rises-from at set f.rises) (omega arith) (omega (arith, first.1)) (omega (arith, first.0))
  | inr over ↦
      let none = nothing_left set at f.rises (λ d far. f.few d (omega (arith, far, over))) in
      ap (at_least (at + 1)) none ∙ sym (ap (drop 1) none)
]

-- nothing is taken at the end
pub takes_nothing : (left out : List ℕ) → left ≡ [] → Takes left left out 0
takes_nothing left out none = record {
  some = λ some. absurd (omega (arith, some, ap length none));
  few = omega arith;
  within = omega arith;
  taken = refl;
  left_is = refl;
}

-- what is left of what remains, where a set is cut
pub cut_left : (set cut now : List ℕ) (p : ℕ → Bool) (at next : ℕ) → at_least at set ≡ now → cut ≡ filter p set →
    at_least next cut ≡ at_least at cut → at_least next cut ≡ filter p now
cut_left set cut now p at next remains is same = same ∙ ap (at_least at) is ∙ sym (filter-at_least at p set) ∙ ap (filter p) remains

-- what is left of the numbers below an end are those from one on
left_numbers : (at end : ℕ) → at ≤ end → at_least at (range_with_len 0 end) ≡ range_with_len at (end - at)
left_numbers at end within =
    same_members 0 (at_least at (range_with_len 0 end)) (range_with_len at (end - at)) (Rises-from at (range_with_len 0 end) (Rises-range 0 end))
    (Rises-lower at 0 (range_with_len at (end - at)) (omega arith) (Rises-range at (end - at)))
    (λ d. has-from at (range_with_len 0 end) d ∙ elim (cases_lt d at) [
      | inl low ↦ ap (λ b. has (range_with_len 0 end) d && b) (lt-leb at d low) ∙ and-false (has (range_with_len 0 end) d)
          ∙ sym (has-below at (range_with_len at (end - at)) d (Rises-range at (end - at)) low)
      | inr high ↦ ap (λ b. has (range_with_len 0 end) d && b) (le-leb at d high) ∙ right (has (range_with_len 0 end) d) ∙ elim (cases_lt d end) [
        | inl inside ↦ has-range 0 end d (omega arith) (omega (arith, inside)) ∙ sym (has-range at (end - at) d high (omega (arith, inside, within)))
        | inr past ↦ past-range 0 end d (omega (arith, past)) ∙ sym (past-range at (end - at) d (omega (arith, past, within)))
      ]
    ])

-- the first of them are taken
pub takes_numbers : (set out : List ℕ) (at end count : ℕ) → set ≡ range_with_len 0 end → at < end → count ≡ min 128 (end - at) →
    take count out ≡ range_with_len at count → Takes (at_least at set) (at_least (at + count) set) out count
takes_numbers set out at end count is inside count_is written =
    let more = end - (at + count) in
    let whole : end - at ≡ count + more = omega (arith, inside, count_is) in
    let parts : at_least at set ≡ range_with_len at count ++ range_with_len (at + count) more =
    ap (at_least at) is ∙ left_numbers at end (omega (arith, inside)) ∙ ap (range_with_len at) whole ∙ range-append at count more in
    let size = length-range_with_len at count in
    let sized : length (at_least at set) ≡ count + more =
    ap length (ap (at_least at) is ∙ left_numbers at end (omega (arith, inside))) ∙ length-range_with_len at (end - at) ∙ whole in
    let seam = ap (λ n. take n (range_with_len at count ++ range_with_len (at + count) more)) (sym size) in
    let rest = ap (λ n. drop n (range_with_len at count ++ range_with_len (at + count) more)) (sym size) in
    record {
      some = λ _. omega (arith, inside, count_is);
      few = omega (arith, count_is);
      within = omega (arith, sized);
      taken = written ∙ sym (ap (take count) parts ∙ seam ∙ take-append_seam (range_with_len at count) (range_with_len (at + count) more));
      left_is = ap (at_least (at + count)) is ∙ left_numbers (at + count) end (omega (arith, inside, count_is))
          ∙ sym (ap (drop count) parts ∙ rest ∙ drop-append_seam (range_with_len at count) (range_with_len (at + count) more));
    }

-- a number that remains of all below an end is below it
pub below_end : (set : List ℕ) (at end : ℕ) → set ≡ range_with_len 0 end → has set at ≡ true → at < end
below_end set at end is here = elim (cases_lt at end) [
  | inl inside ↦ inside
  | inr past ↦ absurd (let e : true ≡ false = sym here ∙ ap (λ xs. has xs at) is ∙ past-range 0 end at (omega (arith, past)) in cc)
]
