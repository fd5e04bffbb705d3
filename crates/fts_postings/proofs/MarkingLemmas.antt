-- Documents that are marked a stretch at a time.
use Rattle.std.proofs.Common.{◌≡◌, ℕ, zero, suc, ◌+◌, ◌-◌, ◌<◌, ◌≤◌, All, Bool, true, false, ◌||◌, ◌==◌, List, [], ◌∷◌, ◌++◌, length, get_or, take, drop, refl}
use Rattle.std.proofs.Common.{sym, ap, subst, ◌∙◌, inl, inr, arith}
use Rattle.std.specs.List.{flat_map}
use Rattle.std.specs.List.Sorted.{IsStrictlyIncreasing}
use Rattle.std.proofs.lemmas.Bool.{cases_lt}
use Rattle.std.proofs.lemmas.List.{drop-take, get_or-take, get_or_append_left, get_or_default, length-append, length-drop, length-take-le, take-append-drop}
use Rattle.std.proofs.lemmas.List.{take-append-le, take_more}
use Rattle.std.proofs.lemmas.List.Elements.{All-cons, All-nil}
use Rattle.std.proofs.lemmas.List.Folds.{list_any-append}
use Rattle.fts_pack.specs.Documents.{Rises}
use Rattle.fts_postings.specs.Sets.{has, with_one}
use Rattle.fts_postings.specs.Posting.{IsPosting, Posting, here, remaining_of}
use Rattle.fts_postings.specs.Remaining.{at_least}
use Rattle.fts_postings.proofs.PostingLemmas.{Rises-place, stands_within}
use Rattle.fts_postings.proofs.RemainingLemmas.{Rises-front, at_least-append, increasing-from_Rises}
use Rattle.fts_postings.proofs.UnionLemmas.{has-with_one, leaves, stays}

or_turn : (x a b : Bool) → (x || (a || b)) ≡ (a || (b || (x || false)))
or_turn true true b = refl
or_turn true false true = refl
or_turn true false false = refl
or_turn false true b = refl
or_turn false false true = refl
or_turn false false false = refl

-- what is left from a target on is no less than the target
pub at_least_each : (target : ℕ) (xs : List ℕ) → All (λ d. target ≤ d) (at_least target xs)
at_least_each target [] = All-nil (λ d. target ≤ d)
at_least_each target (x ∷ xs) = elim (cases_lt x target) [
  | inl low ↦ subst (λ ys. All (λ d. target ≤ d) ys) (sym (leaves target x xs low)) (at_least_each target xs)
  | inr up ↦ subst (λ ys. All (λ d. target ≤ d) ys) (sym (stays target x xs up)) (All-cons (λ d. target ≤ d) x (at_least target xs) up
      (at_least_each target xs))
]

-- each document of the target or more is left, and no lower one
pub at_least_kept : (target : ℕ) (xs : List ℕ) → All (λ d. target ≤ d) xs → at_least target xs ≡ xs
at_least_kept target [] h = refl
at_least_kept target (x ∷ xs) h =
    stays target x xs (h 0 0 (omega arith)) ∙ ap (λ ys. x ∷ ys) (at_least_kept target xs (λ k d inside. h (suc k) d (omega (arith, inside))))

at_least_gone : (target : ℕ) (xs : List ℕ) → All (λ d. d < target) xs → at_least target xs ≡ []
at_least_gone target [] h = refl
at_least_gone target (x ∷ xs) h =
    leaves target x xs (h 0 0 (omega arith)) ∙ at_least_gone target xs (λ k d inside. h (suc k) d (omega (arith, inside)))

pub at_least_behind : (target count : ℕ) (xs : List ℕ) → All (λ d. d < target) (take count xs) → at_least target (drop count xs) ≡ at_least target xs
at_least_behind target count xs h =
    sym (ap (at_least target) (sym (take-append-drop count xs)) ∙ at_least-append target (take count xs) (drop count xs)
    ∙ ap (λ ys. ys ++ at_least target (drop count xs)) (at_least_gone target (take count xs) h))

-- one document more
pub marked_more : (old mid new docs : List ℕ) (index doc : ℕ) → index < length docs → doc ≡ get_or docs index 0 → new ≡ with_one doc mid →
    ((d : ℕ) → has mid d ≡ (has old d || has (take index docs) d)) → (d : ℕ) → has new d ≡ (has old d || has (take (index + 1) docs) d)
marked_more old mid new docs index doc inside is more before d =
    let front = take index docs in
    let whole : take (index + 1) docs ≡ front ++ doc ∷ [] = take_more docs index 0 inside ∙ ap (λ x. front ++ x ∷ []) (sym is) in
    ap (λ xs. has xs d) more ∙ has-with_one doc mid d ∙ ap (λ b. (doc == d) || b) (before d)
    ∙ or_turn (doc == d) (has old d) (has front d)
    ∙ ap (λ b. has old d || b) (sym (ap (λ xs. has xs d) whole ∙ list_any-append (λ x. x == d) front (doc ∷ [])))

-- what stands earlier in a rising list is no greater
rises_up : (xs : List ℕ) (at more : ℕ) → IsStrictlyIncreasing xs → at + more < length xs → get_or xs at 0 ≤ get_or xs (at + more) 0
rises_up xs at zero h inside = let e : at + 0 ≡ at = omega arith in rw e (omega arith)
rises_up xs at (suc more) h inside =
    let e : at + more + 1 ≡ at + suc more = omega arith in
    omega (arith, rises_up xs at more h (omega (arith, inside)), rw e at (h (at + more) (omega (arith, inside))))

-- if the last of them has a place, each has
pub places_first : (last : ℕ) (docs : List ℕ) (count : ℕ) → IsStrictlyIncreasing docs → count ≤ length docs → (0 < count → get_or docs (count - 1) 0 ≤ last) →
    All (λ d. d ≤ last) (take count docs)
places_first last docs count rises within reached k d inside =
    let few : k < count = omega (arith, inside, length-take-le count docs within) in
    let same : get_or (take count docs) k d ≡ get_or docs k 0 = get_or-take count docs k d few ∙ get_or_default docs k d 0 (omega (arith, few, within)) in
    let e : k + (count - 1 - k) ≡ count - 1 = omega (arith, few) in
    let up = rises_up docs k (count - 1 - k) rises (omega (arith, few, within)) in
    omega (arith, same, rw e at up, reached (omega (arith, few)))

-- the rest of the open block, with which what remains begins
module _ (p q : Posting) (same : p ≡ q) (len : ℕ) (numbers mid : List ℕ) (h : IsPosting p.blocks p.block p.at len p.opened numbers)
    (some : 0 < length (remaining_of q)) (mid_is : mid ≡ take (len - p.at) (drop p.at numbers)) where
  abbrev rest : List ℕ
  rest = flat_map (λ block. block) (drop (suc p.block) p.blocks)

  is : remaining_of p ≡ remaining_of q
  is = ap remaining_of same

  pub open_inside : p.at < len
  open_inside = h.stands (stands_within p (subst (λ xs. 0 < length xs) (sym is) some))

  mid_here : mid ≡ drop p.at (here p)
  mid_here =
      let whole : p.at + (len - p.at) ≡ len = omega (arith, open_inside) in
      mid_is ∙ sym (drop-take p.at (len - p.at) numbers) ∙ ap (λ n. drop p.at (take n numbers)) whole ∙ ap (drop p.at) h.numbers_are

  begins : remaining_of q ≡ mid ++ rest
  begins = sym is ∙ ap (λ xs. xs ++ rest) (sym mid_here)

  pub open_size : length mid ≡ length (here p) - p.at
  open_size = ap length mid_here ∙ length-drop p.at (here p)

  pub open_some : 0 < length mid
  open_some = omega (arith, open_size, h.size, open_inside)

  pub open_low : (from : ℕ) → remaining_of q ≡ at_least from (remaining_of q) → All (λ d. from ≤ d) mid
  open_low from up k d inside =
      let all : All (λ e. from ≤ e) (mid ++ rest) = subst (λ xs. All (λ e. from ≤ e) xs) (sym up ∙ begins) (at_least_each from (remaining_of q)) in
      subst (λ x. from ≤ x) (get_or_append_left mid rest d k inside) (all k d (omega (arith, length-append mid rest, inside)))

  pub open_rises : IsStrictlyIncreasing (flat_map (λ block. block) p.blocks) → IsStrictlyIncreasing mid
  open_rises up =
      let r = Rises-place p.blocks p.block p.at up in
      increasing-from_Rises r.0 mid (Rises-front r.0 mid rest (subst (λ xs. Rises r.0 (xs ++ rest)) (sym mid_here) r.1))

  pub open_first : (last : ℕ) → get_or (remaining_of q) 0 0 ≤ last → get_or mid 0 0 ≤ last
  open_first last le = omega (arith, le, ap (λ xs. get_or xs 0 0) begins, get_or_append_left mid rest 0 0 open_some)

  pub open_taken : (count : ℕ) → count ≤ length mid → take count mid ≡ take count (remaining_of q)
  open_taken count fits = sym (ap (take count) begins ∙ take-append-le count mid rest fits)

  pub open_within : (count : ℕ) → count ≤ length mid → count ≤ length (remaining_of q)
  open_within count fits = omega (arith, fits, ap length begins, length-append mid rest)
