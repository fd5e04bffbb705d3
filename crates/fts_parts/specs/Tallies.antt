-- How hits are counted by their numbers in a column.
use Rattle.std.specs.Prelude.{◌≡◌, ℕ, ◌+◌, ◌^◌, ◌<◌, ◌≤◌, nat_lt, List, [], ◌∷◌, Option, None, if◌then◌else◌}
use Rattle.std.specs.Prelude.{length, slice_index_or, fold}
use Rattle.std.specs.List.{filter_map}
use Rattle.std.specs.Ordering.{nat_cmp}
use Rattle.fts_model.specs.declared.schema.Kind.{Kind}
use Rattle.fts_model.specs.declared.schema.Kind.TheVariants as kinds
use Rattle.fts_model.specs.declared.value.Number.{Number}
use Rattle.fts_model.specs.declared.value.Number.TheVariants.{U64, I64}
use Rattle.fts_model.specs.Answers.{count_one}
use Rattle.fts_parts.specs.declared.tally.Tally.{Tally}
use Rattle.fts_parts.specs.declared.tally.Tally.TheVariants.{Counts, Numbers}
use Rattle.fts_pack.specs.bits.Signed.{i64_of}
use Rattle.fts_pack.specs.column.Counts.{AreWithin}

-- the number that a column of this kind keeps as this one
abbrev pub number_at : Kind → ℕ → Number
number_at kinds.I64 x = I64 (i64_of x)
number_at kinds.Text x = U64 x
number_at kinds.Keyword x = U64 x
number_at kinds.U64 x = U64 x

-- the numbers that documents have in a column
abbrev pub present_at : List (Option ℕ) → List ℕ → List ℕ
present_at column docs = filter_map (λ doc. slice_index_or column doc None) docs

-- the numbers that were counted with their counts, from the number `x` on
abbrev pub counts_from : ℕ → List ℕ → List (ℕ × ℕ)
counts_from x [] = []
counts_from x (count ∷ counts) =
    if nat_lt 0 count then (x, count) ∷ counts_from (x + 1) counts else counts_from (x + 1) counts

-- the counts of numbers, each counted as it comes
abbrev pub counts_of : List ℕ → List (ℕ × ℕ)
counts_of numbers = fold (count_one nat_cmp) [] numbers

-- numbers were counted, each at its place from the least on, where 64 bits tell how many there are
abbrev pub AreCounts : List ℕ → ℕ → List ℕ → Type 0
AreCounts numbers least counts = length numbers < 2 ^ 64 → counts_from least counts ≡ counts_of numbers

-- these numbers were counted
abbrev pub IsTally : List ℕ → Tally → Type 0
IsTally numbers (Counts least counts) = AreCounts numbers least counts.items
IsTally numbers (Numbers held) = held.items ≡ numbers

-- there is a place for each number of a column, if there are places
abbrev pub IsTallyFor : List (Option ℕ) → Tally → Type 0
IsTallyFor column (Counts least counts) =
    AreWithin column least (length counts.items) × (least + length counts.items ≤ 2 ^ 64)
IsTallyFor column (Numbers held) = Unit {0}
