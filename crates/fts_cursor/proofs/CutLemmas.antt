-- Those of what is kept whose bit is set.
use Rattle.std.proofs.Common.{◌≡◌, ◌&&◌, ℕ, Bool, cond, List, [], ◌∷◌, refl, sym, ap, ◌∙◌, inl, inr}
use Rattle.std.specs.List.{filter}
use Rattle.std.proofs.lemmas.Bool.{cases_Bool}

-- what passes one test and another
pub filter-both : (p q l : ℕ → Bool) → ((d : ℕ) → q d ≡ (p d && l d)) → (xs : List ℕ) → filter q xs ≡ filter l (filter p xs)
filter-both p q l h [] = refl
filter-both p q l h (x ∷ xs) = elim (cases_Bool (p x)) [
  | inl live ↦ (
      let kept : filter p (x ∷ xs) ≡ x ∷ filter p xs = ap (λ b. cond b (x ∷ filter p xs) (filter p xs)) live in
      ap (λ b. cond b (x ∷ filter q xs) (filter q xs)) (h x ∙ ap (λ b. b && l x) live) ∙ ap (λ ys. cond (l x) (x ∷ ys) ys) (filter-both p q l h xs)
      ∙ sym (ap (filter l) kept)
      )
  | inr dead ↦ (
      let kept : filter p (x ∷ xs) ≡ filter p xs = ap (λ b. cond b (x ∷ filter p xs) (filter p xs)) dead in
      ap (λ b. cond b (x ∷ filter q xs) (filter q xs)) (h x ∙ ap (λ b. b && l x) dead) ∙ filter-both p q l h xs ∙ sym (ap (filter l) kept)
      )
]
