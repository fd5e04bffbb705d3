-- Documents of one list that another lacks, some at a time.
use Rattle.std.proofs.Common.{◌≡◌, ◌≢◌, ℕ, Bool, true, false, ◌+◌, ◌<◌, ◌≤◌, not, Option, Some, None, List, [], ◌∷◌, length, get_or, take, drop, refl, sym, ap, subst, ◌∙◌, arith}
use Rattle.std.specs.Prelude.{MatchBool}
use Rattle.std.specs.List.{All, filter, slice_get}
use Rattle.std.specs.List.Sorted.{IsStrictlyIncreasing}
use Rattle.std.proofs.lemmas.List.{get_or-drop, get_or-take, get_or_default, length-drop, length-take-le, take-take}
use Rattle.std.proofs.lemmas.List.Elements.{All-take}
use Rattle.std.proofs.lemmas.List.Kept.{AllPairs-from_increasing}
use Rattle.fts_postings.specs.Remaining.{at_least}
use Rattle.fts_postings.specs.Sets.{FirstPasses, has, lacks, without}
use Rattle.fts_postings.specs.Takes.{Takes}
use Rattle.fts_postings.proofs.CostLemmas.{length-filter-le}
use Rattle.fts_postings.proofs.SetLemmas.{Rises-from_first, filter-same, has-at_least, has-first}
use Rattle.fts_postings.proofs.TakesLemmas.{Taken-some, no_first}
use Rattle.std.proofs.lemmas.List.Filters.{FiltersInPlace}
use Rattle.fts_sets.specs.Kept.{IsKept}
use Rattle.fts_cursor.specs.TreeValues.{Narrowed, TreeValue}
use Rattle.fts_cursor.specs.Trees.{PassesAt}
use Rattle.fts_cursor.proofs.ListedLemmas.{rises_left}
use Rattle.fts_cursor.proofs.LiveLemmas.{Taken-live, first_kept}
use Rattle.fts_cursor.proofs.TreeLemmas.{not_first}

-- a front of a rising list is no greater than what follows
pub front_low : (xs : List ℕ) (i d : ℕ) → IsStrictlyIncreasing xs → i < length xs → get_or xs i 0 ≤ d → All (λ x. x ≤ d) (take i xs)
front_low xs i d rises inside high k e within =
    let low : k < i = omega (arith, within, length-take-le i xs (omega (arith, inside))) in
    let at : get_or (take i xs) k e ≡ get_or xs k 0 = get_or-take i xs k e low ∙ get_or_default xs k e 0 (omega (arith, low, inside)) in
    omega (arith, at, high, AllPairs-from_increasing xs rises k i 0 low inside)

-- what is at the index was there at first
pub still_there : (p : ℕ → Bool) (xs ys : List ℕ) (k i : ℕ) → FiltersInPlace p xs ys k i → get_or ys i 0 ≡ get_or xs i 0
still_there p xs ys k i h =
    let same : (zs : List ℕ) → get_or (drop i zs) 0 0 ≡ get_or zs i 0 = λ zs. get_or-drop i zs 0 0 ∙ ap (λ n. get_or zs n 0) (let e : i + 0 ≡ i = omega arith in e) in
    sym (same ys) ∙ ap (λ zs. get_or zs 0 0) h.rest ∙ same xs

-- a turn: a document is asked for that isn't below those before
module _ (docs : List ℕ) (i end : ℕ) (rises : IsStrictlyIncreasing (take end docs)) (low : i < end) (room : end ≤ length docs) where
  pub before_low : All (λ x. x ≤ get_or docs i 0) (take i docs)
  before_low =
      let long = length-take-le end docs room in
      let at = get_or-take end docs i 0 low in
      rw (take-take i end docs (omega (arith, low))) at (front_low (take end docs) i (get_or docs i 0) rises (omega (arith, long, low)) (omega (arith, at)))

  pub front_all : (d : ℕ) → All (λ x. x ≤ d) (take (i + 1) docs) → All (λ x. x ≤ d) (take i docs) × (get_or docs i 0 ≤ d)
  front_all d all =
      let long = length-take-le (i + 1) docs (omega (arith, low, room)) in (
        rw (take-take i (i + 1) docs (omega arith)) at (All-take (λ x. x ≤ d) i (take (i + 1) docs) all),
        omega (arith, all i 0 (omega (arith, long)), get_or-take (i + 1) docs i 0 (omega arith)),
      )

-- a cursor has from a document on what it had
pub has-narrowed : (doc : ℕ) (s t : TreeValue) → Narrowed doc s t → (d : ℕ) → doc ≤ d → has t.remaining d ≡ has s.remaining d
has-narrowed doc s t h d high =
    sym (has-at_least doc t.remaining d high) ∙ ap (λ xs. has xs d) h.same ∙ has-at_least doc s.remaining d high

-- whether a cursor that was sought for a document is at it tells whether it had it
pub has_met : (b : Bool) (found : Option ℕ) (xs ys : List ℕ) (doc : ℕ) → MatchBool b (found ≡ Some doc) (found ≢ Some doc) → found ≡ slice_get xs 0 →
    xs ≡ at_least doc ys → IsStrictlyIncreasing xs → b ≡ has ys doc
has_met b found xs ys doc at first left rises =
    let same : has xs doc ≡ has ys doc = ap (λ zs. has zs doc) left ∙ has-at_least doc ys doc (omega arith) in
    elim b as (λ r. MatchBool r (found ≡ Some doc) (found ≢ Some doc) → r ≡ has ys doc) [
      | true ↦ λ here. sym (has-first xs doc (sym here ∙ first)) ∙ same
      | false ↦ λ other. sym (not_first xs ys doc found first other left rises) ∙ same
    ] at

-- the exclusion is at a document, if it has one
stands_first : (doc : Option ℕ) (p : ℕ → Bool) (xs : List ℕ) → PassesAt doc p xs → doc ≡ slice_get (filter p xs) 0 → 0 < length (filter p xs) →
    FirstPasses p xs
stands_first (Some doc) p xs passes first some = passes
stands_first None p xs passes first some = absurd (no_first (filter p xs) first some)

-- some were taken of what leads, and those of them that the other has weren't kept
module _ (whole mid before after out docs : List ℕ) (n kept : ℕ) (t : Takes whole mid out n) (rises : IsStrictlyIncreasing whole)
    (k : IsKept (lacks before) n out docs kept) (later : (d : ℕ) → All (λ x. x ≤ d) (take n out) → has after d ≡ has before d) where
  pub without_later : without mid after ≡ without mid before
  without_later = elim mid as (λ xs. xs ≡ drop n whole → without xs after ≡ without xs before) [
    | [] ↦ λ is. refl
    | x ∷ xs ↦ λ is.
        let up : IsStrictlyIncreasing (x ∷ xs) = subst IsStrictlyIncreasing (sym is) (rises_left n whole rises) in
        let inside : n < length whole = omega (arith, ap length is, length-drop n whole) in
        let here : get_or whole n 0 ≡ x = ap (λ m. get_or whole m 0) (let e : n ≡ n + 0 = omega arith in e) ∙ sym (get_or-drop n whole 0 0) ∙ sym (ap (λ ys. get_or ys 0 0) is) in
        filter-same x (lacks after) (lacks before) (x ∷ xs) (Rises-from_first (x ∷ xs) x up refl)
        (λ d high. ap not (later d (rw t.taken (front_low whole n d rises inside (omega (arith, here, high))))))
  ] t.left_is

  pub Takes-without : (doc : Option ℕ) → PassesAt doc (lacks before) whole → doc ≡ slice_get (without whole before) 0 →
      Takes (without whole before) (without mid after) docs kept
  Takes-without doc passes first =
      let p = lacks before in
      let taken = Taken-live p whole mid (take n out) docs n kept t.taken (ap (filter p) t.left_is) k.front k.size in
      rw without_later (Taken-some (without whole before) (without mid before) docs kept taken (omega (arith, k.high, t.few))
      (λ some.
      let there : 0 < length whole = omega (arith, some, length-filter-le p whole) in
      omega (arith, first_kept p n whole (stands_first doc p whole passes first some) (t.some there) there, k.size, ap (λ xs. length (filter p xs)) t.taken)))
