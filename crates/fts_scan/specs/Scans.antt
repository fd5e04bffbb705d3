-- The steps of the search that scans every document.
use Rattle.std.specs.Prelude.{◌≡◌, ℕ, suc, ◌+◌, ◌^◌, ◌<◌, Bool, true, false, not, List, [], ◌∷◌, Option, Some, None}
use Rattle.std.specs.Prelude.{if◌then◌else◌, length, map}
use Rattle.std.specs.List.{list_all, list_any}
use Rattle.std.specs.Ordering.{is_eq}
use Rattle.itertools.specs.List.{dedup_with_count}
use Rattle.fts_scan.specs.declared.strings.Strings.{Strings}
use Rattle.fts_scan.specs.declared.strings.Strings.TheVariants.{One, Many}
use Rattle.fts_model.specs.declared.value.GroupValue.{GroupValue}
use Rattle.fts_model.specs.declared.query.Order.{Order}
use Rattle.fts_model.specs.declared.answer.Hit.{Hit}
use Rattle.fts_model.specs.Answers.{group_cmp, comes_before}
use Rattle.fts_model.specs.Documents.{bytes_of}

-- the sum of the counts of groups
abbrev pub hits_counted : {V : Type 0} → List (V × ℕ) → ℕ
hits_counted [] = 0
hits_counted (group ∷ groups) = group.1 + hits_counted groups

-- whether two values belong to one group
abbrev pub is_one_group : GroupValue → GroupValue → Bool
is_one_group v w = is_eq (group_cmp v w)

-- the counts of values in order: adjacent values that a test finds equal are counted together
abbrev pub counts_of_sorted : {V : Type 0} → (V → V → Bool) → List V → List (V × ℕ)
counts_of_sorted same values = map (λ run. (run.1, run.0)) (dedup_with_count same values)

-- the number of hits in an ordered list before the first that a hit comes before
abbrev pub hit_place : Order → List Hit → Hit → ℕ
hit_place order [] hit = 0
hit_place order (other ∷ others) hit = if comes_before order hit other then 0 else suc (hit_place order others hit)

-- the texts of a value of a text field
abbrev pub strings : Strings → List (List ℕ)
strings (One text) = text.now ∷ []
strings (Many texts) = texts.now

-- the spans of these texts, numbered from `first`, have numbers below 2 ^ 63
abbrev pub HasRoom : ℕ → List (List ℕ) → Type 0
HasRoom first texts = first + bytes_of texts + length texts + 2 < 2 ^ 63

-- a search of a text either found something, or it did not and this is the first number of the next text
abbrev pub IsSought : Bool → ℕ → Option ℕ → Type 0
IsSought found next None = found ≡ true
IsSought found next (Some n) = (found ≡ false) × (n ≡ next)

-- whether a test has the result `wanted` for one of these
abbrev pub one_is : {X : Type 0} → Bool → (X → Bool) → List X → Bool
one_is wanted test xs = if wanted then list_any test xs else not (list_all test xs)
