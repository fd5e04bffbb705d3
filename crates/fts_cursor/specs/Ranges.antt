-- Bounds on numbers, by the places of these in a column.
use Rattle.std.specs.Prelude.{◌≡◌, ℕ, ◌^◌, ◌<◌, Bool, true, false, nat_le, nat_lt, List, [], Option, MatchOption}
use Rattle.std.specs.Prelude.{if◌then◌else◌, length}
use Rattle.std.specs.Option.{option_map_or}
use Rattle.std.specs.declared.ops.Bound.{Bound}
use Rattle.std.specs.declared.ops.Bound.TheVariants.{Included, Excluded, Unbounded}
use Rattle.fts_model.specs.declared.value.FieldValue.{FieldValue}
use Rattle.fts_model.specs.declared.value.FieldValue.TheVariants as values
use Rattle.fts_model.specs.declared.value.Number.TheVariants as numbers
use Rattle.fts_model.specs.Documents.{fits_i64}
use Rattle.fts_pack.specs.bits.Signed.{u64_of}
use Rattle.fts_model.specs.Queries.{is_number_field}
use Rattle.fts_model.specs.QueryValues.{QueryValue}
use Rattle.fts_postings.specs.Windows.{passing}
use Rattle.fts_segment.specs.Keywords.{before, up_to}
use Rattle.fts_segment.specs.Segments.{SegmentValue, column, ordinals}
use Rattle.fts_cursor.specs.Hits.{segment_hits}
use Rattle.fts_sets.specs.Leaves.{has_within}

-- a number as a column keeps it; a text is 0
abbrev pub key_of : FieldValue → ℕ
key_of (values.Number (numbers.U64 n)) = n
key_of (values.Number (numbers.I64 z)) = u64_of z
key_of value = 0

-- a number with a sign has 64 bits
abbrev pub IsWhole : FieldValue → Type 0
IsWhole (values.Number (numbers.I64 z)) = fits_i64 z ≡ true
IsWhole value = Unit {0}

abbrev pub IsWholeBound : Bound FieldValue → Type 0
IsWholeBound (Included value) = IsWhole value
IsWholeBound (Excluded value) = IsWhole value
IsWholeBound Unbounded = Unit {0}

-- a lower and an upper bound admit a number that a column keeps
abbrev pub key_from : Bound FieldValue → ℕ → Bool
key_from (Included bound) x = nat_le (key_of bound) x
key_from (Excluded bound) x = nat_lt (key_of bound) x
key_from Unbounded x = true

abbrev pub key_to : Bound FieldValue → ℕ → Bool
key_to (Included bound) x = nat_le x (key_of bound)
key_to (Excluded bound) x = nat_lt x (key_of bound)
key_to Unbounded x = true

-- the least and the greatest number of 64 bits that a bound admits, if it admits one
abbrev pub IsLeastOf : Bound FieldValue → Option ℕ → Type 0
IsLeastOf bound least =
    (x : ℕ) → x < 2 ^ 64 → option_map_or (λ low. nat_le low x) least false ≡ key_from bound x

abbrev pub IsGreatestOf : Bound FieldValue → Option ℕ → Type 0
IsGreatestOf bound greatest =
    (x : ℕ) → x < 2 ^ 64 → option_map_or (λ high. nat_le x high) greatest false ≡ key_to bound x

-- the least ordinal among texts that a lower bound admits
abbrev pub ordinal_from : List (List ℕ) → Bound FieldValue → ℕ
ordinal_from texts (Included (values.Text text)) = before texts text
ordinal_from texts (Excluded (values.Text text)) = up_to texts text
ordinal_from texts bound = 0

-- an upper bound admits an ordinal among texts
abbrev pub ordinal_to : List (List ℕ) → Bound FieldValue → ℕ → Bool
ordinal_to texts (Included (values.Text text)) x = nat_lt x (up_to texts text)
ordinal_to texts (Excluded (values.Text text)) x = nat_lt x (before texts text)
ordinal_to texts bound x = true

-- the greatest ordinal of 64 bits that an upper bound admits, if it admits one
abbrev pub IsLastOrdinal : List (List ℕ) → Bound FieldValue → Option ℕ → Type 0
IsLastOrdinal texts bound last =
    (x : ℕ) → x < 2 ^ 64 → option_map_or (λ high. nat_le x high) last false ≡ ordinal_to texts bound x

-- what the column of a field keeps for each document: numbers, or the ordinals of keywords
abbrev pub values_of : SegmentValue → ℕ → List (Option ℕ)
values_of segment field = if is_number_field segment.schema field then column segment field else ordinals segment field

-- the hits of a query are the documents with a number between two, or there are none
abbrev pub AreBoundsOf : SegmentValue → QueryValue → List (Option ℕ) → Option (ℕ × ℕ) → Type 0
AreBoundsOf segment query numbers bounds =
    MatchOption bounds (segment_hits segment query ≡ [])
    (λ b. passing (has_within b.0 b.1 numbers) 0 (length segment.documents) ≡ segment_hits segment query)
