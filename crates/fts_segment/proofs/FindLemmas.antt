-- A binary search.
use Rattle.std.proofs.Common.{◌≡◌, ◌+◌, ◌<◌, ◌≤◌, ℕ, List, [], length, get_or, sym, ap, subst, ◌∙◌, inl, inr, arith, Ordering, Less, Equal, Greater}
use Rattle.std.specs.Prelude.{slice_get, Some}
use Rattle.std.specs.Ordering.{nat_cmp, is_eq, is_lt, is_le, ordering_reverse}
use Rattle.std.specs.Cmp.Lexicographic.{slice_cmp}
use Rattle.std.proofs.lemmas.Bool.{cases_lt}
use Rattle.std.proofs.lemmas.Cmp.{nat_list_cmp_total, tied_itself}
use Rattle.std.specs.Cmp.Lexicographic.{texts_ties}
use Rattle.std.proofs.lemmas.Slice.Eq.{bytes_eq-Decides}
use Rattle.std.proofs.lemmas.Option.{slice_get_within, slice_get-get_or, get_or_from_slice_get}
use Rattle.fts_model.specs.Queries.{text_lt, text_le}
use Rattle.fts_segment.specs.Sorted.{Ascends}
use Rattle.fts_segment.specs.Keywords.{before, up_to}
use Rattle.fts_segment.proofs.KeywordsLemmas.{count_front}

-- the names below `low` are before the term, and those from `high` are after it
pub record Narrows (names : List (List ℕ)) (term : List ℕ) (low high : ℕ) : Type 0 where
  pub ordered : low ≤ high
  pub within : high ≤ length names
  pub before : (i : ℕ) → i < low → slice_cmp nat_cmp (get_or names i []) term ≡ Less
  pub behind : (i : ℕ) → high ≤ i → i < length names → slice_cmp nat_cmp (get_or names i []) term ≡ Greater

pub same_from_equal : (xs ys : List ℕ) → slice_cmp nat_cmp xs ys ≡ Equal → xs ≡ ys
same_from_equal xs ys h = (bytes_eq-Decides xs ys).0 (texts_ties xs ys ∙ ap is_eq h)

pub turned : (xs ys : List ℕ) (o : Ordering) → slice_cmp nat_cmp xs ys ≡ o → slice_cmp nat_cmp ys xs ≡ ordering_reverse o
turned xs ys o h = nat_list_cmp_total.antisymm ys xs ∙ ap ordering_reverse h

pub Narrows-less : {names : List (List ℕ)} {term : List ℕ} {low high : ℕ} (middle : ℕ) → Ascends names → Narrows names term low high → low ≤ middle →
    middle < high →
    slice_cmp nat_cmp (get_or names middle []) term ≡ Less → Narrows names term (middle + 1) high
Narrows-less {names} {term} {low} {high} middle up n from below less = record {
  ordered = omega arith;
  within = n.within;
  before = λ i h. elim (cases_lt i middle) [
    | inl lower ↦ nat_list_cmp_total.trans (get_or names i []) (get_or names middle []) term (up i middle lower (omega (arith, n.within))) less
    | inr higher ↦ let same : middle ≡ i = omega arith in let P : ℕ → Type 0 = λ k. slice_cmp nat_cmp (get_or names k []) term ≡ Less in subst P same less
  ];
  behind = n.behind;
}

pub Narrows-greater : {names : List (List ℕ)} {term : List ℕ} {low high : ℕ} (middle : ℕ) → Ascends names → Narrows names term low high → low ≤ middle →
    middle < high →
    slice_cmp nat_cmp (get_or names middle []) term ≡ Greater → Narrows names term low middle
Narrows-greater {names} {term} {low} {high} middle up n from below greater = record {
  ordered = from;
  within = omega (arith, n.within);
  before = n.before;
  behind = λ i h within. elim (cases_lt middle i) [
    | inl higher ↦ turned term (get_or names i []) Less
        (nat_list_cmp_total.trans term (get_or names middle []) (get_or names i []) (turned (get_or names middle []) term Greater greater)
        (up middle i higher within))
    | inr lower ↦ let same : middle ≡ i = omega arith in let P : ℕ → Type 0 = λ k. slice_cmp nat_cmp (get_or names k []) term ≡ Greater in subst P same greater
  ];
}

pub Narrows-none : {names : List (List ℕ)} {term : List ℕ} {low high : ℕ} → Narrows names term low high → high ≤ low → (i : ℕ) → slice_get names i ≡ Some term →
    ⊥
Narrows-none {names} {term} {low} {high} n met i found =
    let within : i < length names = slice_get_within names i term found in
    let here : get_or names i [] ≡ term = get_or_from_slice_get names i term [] found in
    let itself : slice_cmp nat_cmp (get_or names i []) term ≡ Equal = ap (λ t. slice_cmp nat_cmp t term) here ∙ tied_itself nat_list_cmp_total term in
    elim (cases_lt i low) [
      | inl lower ↦ let clash : Less ≡ Equal = sym (n.before i lower) ∙ itself in cc
      | inr higher ↦ let clash : Greater ≡ Equal = sym (n.behind i (omega arith) within) ∙ itself in cc
    ]

pub Narrows-found : (names : List (List ℕ)) (term : List ℕ) (middle : ℕ) → middle < length names → slice_cmp nat_cmp (get_or names middle []) term ≡ Equal →
    slice_get names middle ≡ Some term
Narrows-found names term middle within equal = slice_get-get_or names middle [] within ∙ ap Some (same_from_equal (get_or names middle []) term equal)

-- if nothing is left between them, `low` names are before the term, and none is the term
pub Narrows-before : {names : List (List ℕ)} {term : List ℕ} {low high : ℕ} → Narrows names term low high → high ≤ low → before names term ≡ low
Narrows-before {names} {term} {low} {high} n met =
    count_front (λ t. text_lt t term) names low (omega (arith, n.ordered, n.within, met)) (λ i h. ap is_lt (n.before i h))
    (λ i h within. ap is_lt (n.behind i (omega (arith, met, h)) within))

pub Narrows-up_to : {names : List (List ℕ)} {term : List ℕ} {low high : ℕ} → Narrows names term low high → high ≤ low → up_to names term ≡ low
Narrows-up_to {names} {term} {low} {high} n met =
    count_front (λ t. text_le t term) names low (omega (arith, n.ordered, n.within, met)) (λ i h. ap is_le (n.before i h))
    (λ i h within. ap is_le (n.behind i (omega (arith, met, h)) within))

-- a name at an index and those before it are not after it
pub up_to-found : (names : List (List ℕ)) (term : List ℕ) (i : ℕ) → Ascends names → slice_get names i ≡ Some term → up_to names term ≡ i + 1
up_to-found names term i up found =
    let within : i < length names = slice_get_within names i term found in
    let here : get_or names i [] ≡ term = get_or_from_slice_get names i term [] found in
    count_front (λ t. text_le t term) names (i + 1) (omega (arith, within))
    (λ k h. elim (cases_lt k i) [
      | inl lower ↦ ap is_le (ap (slice_cmp nat_cmp (get_or names k [])) (sym here) ∙ up k i lower within)
      | inr higher ↦ let same : i ≡ k = omega (arith, h, higher) in
          ap is_le (ap (λ k. slice_cmp nat_cmp (get_or names k []) term) (sym same) ∙ ap (λ t. slice_cmp nat_cmp t term) here ∙ tied_itself nat_list_cmp_total
          term)
    ])
    (λ k h inside. ap is_le (ap (slice_cmp nat_cmp (get_or names k [])) (sym here) ∙ turned (get_or names i []) (get_or names k []) Less
    (up i k (omega (arith, h)) inside)))
