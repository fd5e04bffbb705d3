-- Tests of documents by their numbers.
use Rattle.std.specs.Prelude.{ℕ, ◌&&◌, Bool, List, None, Option, nat_lt, not, slice_index_or}
use Rattle.std.specs.Borrow.{Bor}
use Rattle.std.specs.Global.{Vec}
use Rattle.std.specs.List.{list_all, list_any}
use Rattle.fts_pack.specs.column.Column.{is_within}
use Rattle.fts_postings.specs.Windows.{is_set}
use Rattle.fts_sets.specs.declared.leaf.Leaf.{Leaf}
use Rattle.fts_sets.specs.declared.leaf.Leaf.TheVariants.{Below, Set, Within}

-- whether a document's number in a column is within these
abbrev pub has_within : ℕ → ℕ → List (Option ℕ) → ℕ → Bool
has_within low high column d = is_within low high (slice_index_or column d None)

-- whether a document passes
abbrev pub leaf_has : Leaf → ℕ → Bool
leaf_has (Below docs) d = nat_lt d docs
leaf_has (Set bits) d = is_set bits.now d
leaf_has (Within column low high) d = has_within low high column.now d

-- whether it passes each of these, and one of these
abbrev pub all_have : List Leaf → ℕ → Bool
all_have leaves d = list_all (λ l. leaf_has l d) leaves

abbrev pub one_has : List Leaf → ℕ → Bool
one_has leaves d = list_any (λ l. leaf_has l d) leaves

-- whether it passes one of each of these
abbrev pub each_has : List (Vec Leaf) → ℕ → Bool
each_has clauses d = list_all (λ c. one_has c.items d) clauses

-- whether its bit is set in each of these, and in one of these
abbrev pub in_each : List (Bor (List Bool)) → ℕ → Bool
in_each bits d = list_all (λ b. is_set b.now d) bits

abbrev pub in_one : List (Bor (List Bool)) → ℕ → Bool
in_one bits d = list_any (λ b. is_set b.now d) bits

-- whether a document is one of the first, passes each of some tests, one of each of others, and none of still others
abbrev pub is_told : ℕ → List Leaf → List (Vec Leaf) → List Leaf → ℕ → Bool
is_told docs all any none d = ((nat_lt d docs && all_have all d) && each_has any d) && not (one_has none d)

-- whether it is one of the first, passes one of each of some tests, and none of others
abbrev pub rest_has : ℕ → List (Vec Leaf) → List Leaf → ℕ → Bool
rest_has docs any none d = (nat_lt d docs && each_has any d) && not (one_has none d)
