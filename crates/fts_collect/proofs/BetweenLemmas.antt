-- The documents whose hits are set and whose numbers are between two.
use Rattle.std.proofs.Common.{◌≡◌, ◌∷◌, ℕ, ◌+◌, ◌<◌, ◌≤◌, ◌==◌, ◌||◌, true, false, inl, inr, List, [], ◌++◌, length, filter, get_or, Option, Some, None, refl}
use Rattle.std.proofs.Common.{sym, ap, subst, ◌∙◌, arith, All, AllPairs, Contains}
use Rattle.std.specs.Prelude.{slice_get}
use Rattle.std.specs.List.Sorted.{IsStrictlyIncreasing}
use Rattle.std.proofs.lemmas.Bool.{cases_Bool, cases_lt, eqb-true, false≢true}
use Rattle.std.proofs.Math.Bool.{or-true}
use Rattle.std.proofs.lemmas.List.{get_or_past}
use Rattle.std.proofs.lemmas.List.Elements.{All-append, All-contains, All-from_get_or, Contains-append_left, Contains-append_right, Contains-get_or}
use Rattle.std.proofs.lemmas.List.Kept.{AllPairs-filter, AllPairs-from_increasing}
use Rattle.std.proofs.lemmas.Option.{get_or_from_slice_get, slice_get-get_or}
use Rattle.fts_model.proofs.Lists.{Contains-behind, Contains-cases, Contains-filter, Contains-first, Contains-from_filter, Contains-none, one_order}
use Rattle.fts_pack.specs.column.Column.{is_within}
use Rattle.fts_segment.specs.Between.{AreBetween}
use Rattle.fts_postings.specs.Sets.{has}
use Rattle.fts_postings.proofs.SetLemmas.{is_itself}
use Rattle.fts_collect.specs.Internals.Walks.{AllFound, IsBetween, has_between}

-- where a number lies between two
abbrev IsThere : List (Option ℕ) → ℕ → ℕ → ℕ → Type 0
IsThere numbers low high doc = (x : ℕ) × (slice_get numbers doc ≡ Some (Some x)) × (low ≤ x) × (x ≤ high)

value-there : (low high : ℕ) (v : Option ℕ) → is_within low high v ≡ true → (x : ℕ) × (v ≡ Some x) × (low ≤ x) × (x ≤ high)
value-there low high None h = cc
value-there low high (Some x) h = (x, refl, grind arith, grind arith)

has-there : (low high x : ℕ) → low ≤ x → x ≤ high → is_within low high (Some x) ≡ true
has-there low high x a b = grind arith

none-past : (numbers : List (Option ℕ)) (low high doc : ℕ) → length numbers ≤ doc → has_between numbers low high doc ≡ true → ⊥
none-past numbers low high doc past h =
    let none : has_between numbers low high doc ≡ false = ap (is_within low high) (get_or_past numbers doc None past) in
    let no : true ≡ false = sym h ∙ none in cc

inside-of : (numbers : List (Option ℕ)) (low high doc : ℕ) → has_between numbers low high doc ≡ true → doc < length numbers
inside-of numbers low high doc h = elim (cases_lt doc (length numbers)) [ inl inside ↦ inside | inr past ↦ absurd (none-past numbers low high doc past h) ]

-- a number between two is one of the column
between-there : (numbers : List (Option ℕ)) (low high doc : ℕ) → has_between numbers low high doc ≡ true → IsThere numbers low high doc
between-there numbers low high doc h =
    let at = value-there low high (get_or numbers doc None) h in
    (at.0, slice_get-get_or numbers doc None (inside-of numbers low high doc h) ∙ ap Some at.1, at.2, at.3)

there-between : (numbers : List (Option ℕ)) (low high doc x : ℕ) → slice_get numbers doc ≡ Some (Some x) → low ≤ x → x ≤ high →
    has_between numbers low high doc ≡ true
there-between numbers low high doc x at a b = ap (is_within low high) (get_or_from_slice_get numbers doc (Some x) None at) ∙ has-there low high x a b

-- the documents of one list more lie between, if their hits are set
pub between-more : (numbers : List (Option ℕ)) (hits : List ℕ) (low high : ℕ) (lists : List (List ℕ)) (i : ℕ) (found : List ℕ) →
    AreBetween numbers low high lists → i < length lists → All (IsBetween numbers hits low high) found
    → All (IsBetween numbers hits low high) (found ++ filter (has hits) (get_or lists i []))
between-more numbers hits low high lists i found are inside so_far =
    let list = get_or lists i [] in
    let P : ℕ → Type 0 = IsBetween numbers hits low high in
    All-append P found (filter (has hits) list) so_far
    (All-from_get_or P (filter (has hits) list) 0 (λ k lt.
    let doc = get_or (filter (has hits) list) k 0 in
    let from = Contains-from_filter (has hits) list doc (Contains-get_or (filter (has hits) list) k 0 lt) in
    let at = are.sound i doc inside from.0 in
    (from.1, there-between numbers low high doc at.0 at.1 at.2 at.3)))

pub found-more : (hits : List ℕ) (lists : List (List ℕ)) (i : ℕ) (found : List ℕ) → AllFound hits lists i found →
    AllFound hits lists (i + 1) (found ++ filter (has hits) (get_or lists i []))
found-more hits lists i found so_far k doc lt there live =
    let list = get_or lists i [] in
    elim (cases_lt k i) [
      | inl before ↦ Contains-append_left found (filter (has hits) list) doc (so_far k doc before there live)
      | inr now ↦
          let same : k ≡ i = omega (arith, lt, now) in
          let P : ℕ → Type 0 = λ n. Contains (get_or lists n []) doc in
          Contains-append_right found (filter (has hits) list) doc (Contains-filter (has hits) list doc (subst P same there) live)
    ]

pub found-whole : (numbers : List (Option ℕ)) (hits : List ℕ) (low high : ℕ) (lists : List (List ℕ)) (n : ℕ) (found : List ℕ) →
    AreBetween numbers low high lists → length lists ≤ n → AllFound hits lists n found
    → (doc : ℕ) → IsBetween numbers hits low high doc → Contains found doc
found-whole numbers hits low high lists n found are all so_far doc is =
    let at = between-there numbers low high doc is.1 in
    let list = are.whole doc at.0 at.1 at.2 at.3 in
    so_far list.0 doc (omega (arith, list.1, all)) list.2 is.0

Contains-from_has : (hits : List ℕ) (d : ℕ) → has hits d ≡ true → Contains hits d
Contains-from_has [] d h = absurd (false≢true h)
Contains-from_has (x ∷ xs) d h = elim (cases_Bool (x == d)) [
  | inl here ↦ Contains-first x xs d (eqb-true x d here)
  | inr other ↦ Contains-behind x xs d (Contains-from_has xs d (ap (λ b. b || has xs d) (sym other) ∙ h))
]

has-from_Contains : (hits : List ℕ) (d : ℕ) → Contains hits d → has hits d ≡ true
has-from_Contains [] d h = absurd (Contains-none d h)
has-from_Contains (x ∷ xs) d h = elim (Contains-cases x xs d h) [
  | inl here ↦ ap (λ y. (y == d) || has xs d) here ∙ ap (λ b. b || has xs d) (is_itself d)
  | inr later ↦ ap (λ b. (x == d) || b) (has-from_Contains xs d later) ∙ or-true (x == d)
]

-- rising documents that lie between, all of them, are those of the hits
pub all-between : (numbers : List (Option ℕ)) (hits : List ℕ) (low high : ℕ) (found : List ℕ) → IsStrictlyIncreasing found → AllPairs (λ a b. a < b) hits →
    All (IsBetween numbers hits low high) found → ((doc : ℕ) → IsBetween numbers hits low high doc → Contains found doc) →
    found ≡ filter (has_between numbers low high) hits
all-between numbers hits low high found up rise sound whole =
    let q = has_between numbers low high in
    let R : ℕ → ℕ → Type 0 = λ a b. a < b in
    one_order R (λ a b h l. omega (arith, h, l)) found (filter q hits) (AllPairs-from_increasing found up)
    (AllPairs-filter R q hits rise)
    (λ z there.
    let is = All-contains (IsBetween numbers hits low high) found z sound there in
    Contains-filter q hits z (Contains-from_has hits z is.0) is.1)
    (λ z there.
    let from = Contains-from_filter q hits z there in
    whole z (has-from_Contains hits z from.0, from.1))
