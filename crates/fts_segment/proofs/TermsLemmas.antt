-- Names by their ids.
use Rattle.std.proofs.Common.{◌≡◌, ℕ, suc, zero, List, [], ◌∷◌, ◌++◌, Some, length, get_or, refl, sym, ◌∙◌, ap, inl, inr, Less, Equal}
use Rattle.std.specs.Prelude.{◌⊎◌, slice_get}
use Rattle.std.specs.Ordering.{nat_cmp}
use Rattle.std.specs.Cmp.Lexicographic.{slice_cmp}
use Rattle.std.proofs.lemmas.Bool.{cases_order}
use Rattle.std.proofs.lemmas.Cmp.{nat_list_cmp_total, tied_itself}
use Rattle.std.proofs.lemmas.Option.{slice_get_within, get_or_from_slice_get}
use Rattle.fts_segment.specs.Sorted.{Ascends}

pub slice_get_last : {X : Type 0} (xs : List X) (y : X) → slice_get (xs ++ y ∷ []) (length xs) ≡ Some y
slice_get_last [] y = refl
slice_get_last (x ∷ xs) y = slice_get_last xs y

pub slice_get_append : {X : Type 0} (xs ys : List X) (i : ℕ) (x : X) → slice_get xs i ≡ Some x → slice_get (xs ++ ys) i ≡ Some x
slice_get_append [] ys i x h = absurd cc
slice_get_append (y ∷ xs) ys zero x h = h
slice_get_append (y ∷ xs) ys (suc i) x h = slice_get_append xs ys i x h

-- a member of a list with one more is a member of the list, or the last
pub slice_get_push_cases : {X : Type 0} (xs : List X) (y : X) (i : ℕ) (x : X) → slice_get (xs ++ y ∷ []) i ≡ Some x →
    (slice_get xs i ≡ Some x) ⊎ ((i ≡ length xs) × (x ≡ y))
slice_get_push_cases [] y zero x h = inr (refl, cc)
slice_get_push_cases [] y (suc i) x h = absurd cc
slice_get_push_cases (z ∷ xs) y zero x h = inl h
slice_get_push_cases (z ∷ xs) y (suc i) x h = elim (slice_get_push_cases xs y i x h) [ inl e ↦ inl e | inr e ↦ inr (ap suc e.0, e.1) ]

-- a name is not before itself
apart : (names : List (List ℕ)) (i j : ℕ) (q : List ℕ) → slice_get names i ≡ Some q → slice_get names j ≡ Some q →
    slice_cmp nat_cmp (get_or names i []) (get_or names j []) ≡ Less → ⊥
apart names i j q first second less =
    let at_i : get_or names i [] ≡ q = get_or_from_slice_get names i q [] first in
    let at_j : get_or names j [] ≡ q = get_or_from_slice_get names j q [] second in
    let clash : Less ≡ Equal = sym less ∙ ap (λ x. slice_cmp nat_cmp x (get_or names j [])) at_i ∙ ap (slice_cmp nat_cmp q) at_j
    ∙ tied_itself nat_list_cmp_total q in cc

-- an ascending list has a name at only one index
pub one_place : (names : List (List ℕ)) → Ascends names → (i j : ℕ) (q : List ℕ) → slice_get names i ≡ Some q → slice_get names j ≡ Some q → i ≡ j
one_place names up i j q first second = elim (cases_order i j) [
  | inl same ↦ same
  | inr (inl lower) ↦ absurd (apart names i j q first second (up i j lower (slice_get_within names j q second)))
  | inr (inr higher) ↦ absurd (apart names j i q second first (up j i higher (slice_get_within names i q first)))
]
