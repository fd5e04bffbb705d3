-- Those of the hits whose numbers are between two.
use Rattle.std.specs.Prelude.{◌≡◌, ℕ, ◌<◌, Bool, true, List, [], ◌++◌, Contains, Option, Some, None, filter}
use Rattle.std.specs.Prelude.{slice_index_or}
use Rattle.fts_model.specs.declared.query.Order.{Order}
use Rattle.fts_model.specs.declared.query.Order.TheVariants.{Rising, Falling}
use Rattle.fts_model.specs.declared.query.Top.{Top}
use Rattle.fts_pack.specs.column.Column.{is_within}
use Rattle.fts_postings.specs.Sets.{has}
use Rattle.fts_segment.specs.Segments.{SegmentValue, column}
use Rattle.fts_parts.specs.Keys.{TopKValue}
use Rattle.fts_parts.specs.Collected.{HasRanked}

-- whether the number of a document is between two
abbrev pub has_between : List (Option ℕ) → ℕ → ℕ → ℕ → Bool
has_between numbers low high doc = is_within low high (slice_index_or numbers doc None)

-- a document is a hit and has a number between two
abbrev pub IsBetween : List (Option ℕ) → List ℕ → ℕ → ℕ → ℕ → Type 0
IsBetween numbers hits low high doc = (has hits doc ≡ true) × (has_between numbers low high doc ≡ true)

-- the hits whose numbers in a field are between two
abbrev pub hits_between : SegmentValue → ℕ → List ℕ → ℕ → ℕ → List ℕ
hits_between segment field hits low high = filter (has_between (column segment field) low high) hits

-- these hits were ranked too
abbrev pub RanksMore : SegmentValue → Top → List ℕ → TopKValue → TopKValue → Type 0
RanksMore segment top docs old new =
    (before : List ℕ) → HasRanked segment (Some top) before old → HasRanked segment (Some top) (before ++ docs) new

-- the better of two numbers is the best of a range
abbrev pub IsEnd : Order → ℕ × ℕ → ℕ → ℕ → Type 0
IsEnd Rising range low high = low ≡ range.0
IsEnd Falling range low high = high ≡ range.1

-- each document of the first lists is found, if it is a hit
abbrev pub AllFound : List ℕ → List (List ℕ) → ℕ → List ℕ → Type 0
AllFound hits lists n found =
    (k doc : ℕ) → k < n → Contains (slice_index_or lists k []) doc → has hits doc ≡ true → Contains found doc
