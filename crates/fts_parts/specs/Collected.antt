-- What is collected of the hits of a segment that were looked at.
use Rattle.std.specs.Prelude.{◌≡◌, ℕ, ◌-◌, ◌^◌, ◌<◌, true, min, List, [], ◌++◌, Option, Some, None, All, AllPairs}
use Rattle.std.specs.Prelude.{IfSome, if◌then◌else◌, drop, length, map, slice_get, slice_index_or}
use Rattle.std.specs.Option.{option_map_or}
use Rattle.std.specs.List.{filter_map}
use Rattle.fts_pack.specs.bits.Signed.{i64_of}
use Rattle.fts_model.specs.declared.schema.Kind.{Kind}
use Rattle.fts_model.specs.declared.schema.Kind.TheVariants as kinds
use Rattle.fts_model.specs.declared.value.GroupValue.{GroupValue}
use Rattle.fts_model.specs.declared.value.GroupValue.TheVariants as group_values
use Rattle.fts_model.specs.declared.query.Top.{Top}
use Rattle.fts_model.specs.declared.query.Request.{Request}
use Rattle.fts_model.specs.declared.operation.Stamped.{Stamped}
use Rattle.fts_model.specs.Schemas.{holds_numbers}
use Rattle.fts_model.specs.Documents.{DocumentValue, CanHave, is_of_kind, value_in_field}
use Rattle.fts_model.specs.Operations.{kind_at}
use Rattle.fts_model.specs.Queries.{is_number_field}
use Rattle.fts_segment.specs.Segments.{SegmentValue, column, keywords, ordinals}
use Rattle.fts_parts.specs.declared.seen.Seen.{Seen}
use Rattle.fts_parts.specs.declared.tally.Tally.{Tally}
use Rattle.fts_parts.specs.Tallies.{IsTally, IsTallyFor, present_at}
use Rattle.fts_parts.specs.Keys.{TopKValue, first_keys}
use Rattle.fts_parts.specs.Ranks.{keys_at}

-- what each document has in a number field is a value that the field can have
abbrev pub HasNumbers : SegmentValue → Type 0
HasNumbers segment =
    (field : ℕ) (kind : Kind) → kind_at segment.schema field ≡ Some kind → holds_numbers kind ≡ true →
    All (λ d. CanHave kind (value_in_field d.value field)) segment.documents

-- what each document has in a keyword field is a text
abbrev pub HasKeywords : SegmentValue → Type 0
HasKeywords segment =
    (field : ℕ) → kind_at segment.schema field ≡ Some kinds.Keyword →
    All (λ d. IfSome (value_in_field d.value field) (λ v. is_of_kind kinds.Keyword v ≡ true)) segment.documents

-- what each document has in a field whose values have an order is one of these
pub record HasValues (segment : SegmentValue) : Type 0 where
  pub numbers : HasNumbers segment
  pub keywords : HasKeywords segment

-- the column of a field whose values have an order: numbers, or the ordinals of keywords
abbrev pub column_of : SegmentValue → ℕ → List (Option ℕ)
column_of segment field = if is_number_field segment.schema field then column segment field else ordinals segment field

-- the value that a column of this kind keeps as a number, where these are the keywords of the ordinals
abbrev pub value_in : Kind → List (List ℕ) → ℕ → GroupValue
value_in kinds.I64 keywords x = group_values.I64 (i64_of x)
value_in kinds.Keyword keywords x = group_values.Keyword (slice_index_or keywords x [])
value_in kinds.Text keywords x = group_values.U64 x
value_in kinds.U64 keywords x = group_values.U64 x

-- the value that the column of a field keeps as a number
abbrev pub value_at : SegmentValue → ℕ → ℕ → GroupValue
value_at segment field x =
    option_map_or (λ kind. value_in kind (keywords segment field) x) (kind_at segment.schema field) (group_values.U64 x)

-- counts of numbers, with the values that these are kept for
abbrev pub named_by : {V : Type 0} → (ℕ → V) → List (ℕ × ℕ) → List (V × ℕ)
named_by value counts = map (λ c. (value c.0, c.1)) counts

-- the documents of these numbers
abbrev pub hits_at : SegmentValue → List ℕ → List (Stamped DocumentValue)
hits_at segment docs = filter_map (slice_get segment.documents) docs

-- there is a place for each number of the field of the groups, if they are asked for
abbrev pub IsTallyOf : SegmentValue → Option ℕ → Tally → Type 0
IsTallyOf segment None tally = Unit {0}
IsTallyOf segment (Some field) tally = IsTallyFor (column_of segment field) tally

-- the values of these documents were counted, by the numbers that a column keeps for them, if groups are asked for
abbrev pub HasCounted : SegmentValue → Option ℕ → List ℕ → Tally → Type 0
HasCounted segment None docs tally = Unit {0}
HasCounted segment (Some field) docs tally = IsTally (present_at (column_of segment field) docs) tally

-- the first keys of these documents were kept, if a top list is asked for
abbrev pub HasRanked : SegmentValue → Option Top → List ℕ → TopKValue → Type 0
HasRanked segment None docs top_k = Unit {0}
HasRanked segment (Some top) docs top_k =
    top_k ≡ record {
      k = top.k;
      keys = first_keys top.k (keys_at top.order segment.documents (column segment top.by) docs);
    }

-- the first keys of these documents and of the last of more were kept, if a top list is asked for
pub record HasRankedLast (segment : SegmentValue) (asked : Option Top) (docs more : List ℕ) (top_k : TopKValue)
    : Type 0 where
  pub passed : ℕ
  pub ranked : HasRanked segment asked (docs ++ drop passed more) top_k

-- each key that is kept is of a document, if a top list is asked for
abbrev pub KeysWithin : SegmentValue → Option Top → TopKValue → Type 0
KeysWithin segment None top_k = Unit {0}
KeysWithin segment (Some top) top_k = All (λ key. key.doc < length segment.documents) top_k.keys

-- these are numbers of documents, rising, and a number of 64 bits counts them
pub record AreHits (segment : SegmentValue) (docs : List ℕ) : Type 0 where
  pub within : All (λ doc. doc < length segment.documents) docs
  pub rise : AllPairs (λ a b. a < b) docs
  pub few : length docs < 2 ^ 64

-- these documents were looked at
pub record HasSeen (segment : SegmentValue) (request : Request) (docs : List ℕ) (seen : Seen) : Type 0 where
  pub count : seen.count ≡ min (length docs) (2 ^ 64 - 1)
  pub places : IsTallyOf segment request.groups seen.tally
  pub groups : HasCounted segment request.groups docs seen.tally
  pub top : HasRanked segment request.top docs seen.top_k
