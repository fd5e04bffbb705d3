-- Look-ups in the index of a segment.
use Rattle.std.proofs.Common.{◌≡◌, ◌<◌, ℕ, true, false, cond, List, [], ◌∷◌, Some, length, get_or, sym, ap, ◌∙◌, inl, inr, arith, nat_eq}
use Rattle.std.specs.Prelude.{slice_get}
use Rattle.std.specs.List.{dedup, dedup_from}
use Rattle.std.proofs.lemmas.Bool.{cases_Bool, ltb-true, ltb-false}
use Rattle.std.proofs.lemmas.Option.{slice_get-get_or, get_or_from_slice_get, slice_get_within}
use Rattle.std.proofs.lemmas.List.{get_or-map, length-map, nil_from_length}
use Rattle.fts_segment.specs.Occurrences.{OccurrenceValue}
use Rattle.fts_segment.specs.Occurrences.{docs_of, docs_with}
use Rattle.fts_segment.specs.Dictionaries.{occurs, IsDictionaryOf}

never_none : (k : ℕ) (xs : List ℕ) → dedup_from nat_eq k xs ≡ [] → ⊥
never_none k [] h = cc
never_none k (x ∷ xs) h = elim (nat_eq x k) as (λ b. cond b (dedup_from nat_eq k xs) (k ∷ dedup_from nat_eq x xs) ≡ [] → ⊥)
    [ true ↦ λ e. never_none k xs e | false ↦ λ e. cc ] h

some_left : (xs : List ℕ) → 0 < length xs → dedup nat_eq xs ≡ [] → ⊥
some_left [] more h = omega arith
some_left (x ∷ xs) more h = never_none x xs h

-- a term of the dictionary has its list, which is not empty
pub found_list : {os : List OccurrenceValue} {names lists positions : List (List ℕ)} (k : ℕ) (q : List ℕ) →
    IsDictionaryOf os names lists positions → slice_get names k ≡ Some q →
    (k < length lists) × (get_or lists k [] ≡ docs_with q os) × (docs_with q os ≡ [] → ⊥)
found_list {os} {names} {lists} {positions} k q index found =
    let within : k < length names = slice_get_within names k q found in
    let here : get_or names k [] ≡ q = get_or_from_slice_get names k q [] found in (
      omega (arith, ap length index.listed, length-map names (λ q. docs_with q os)),
      ap (λ ls. get_or ls k []) index.listed ∙ get_or-map (λ q. docs_with q os) names k [] [] within ∙ ap (λ q. docs_with q os) here,
      some_left (docs_of q os) (ltb-true 0 (length (docs_of q os)) (sym (ap (occurs os) here) ∙ index.occur k [] within)),
    )

-- a term that is not in the dictionary doesn't occur
pub absent_list : {os : List OccurrenceValue} {names lists positions : List (List ℕ)} (q : List ℕ) →
    IsDictionaryOf os names lists positions → ((k : ℕ) → slice_get names k ≡ Some q → ⊥) → docs_with q os ≡ []
absent_list {os} {names} {lists} {positions} q index absent = elim (cases_Bool (occurs os q)) [
  | inl is ↦ absurd (let at = index.whole q is in absent at.0 (slice_get-get_or names at.0 q at.1 ∙ ap Some at.2))
  | inr is ↦ ap (dedup nat_eq) (nil_from_length (docs_of q os) (let none : length (docs_of q os) ≡ 0 = omega (arith, ltb-false 0 (length (docs_of q os)) is) in
      none))
]
