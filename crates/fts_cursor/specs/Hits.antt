-- The documents of a segment that a query finds.
use Rattle.std.specs.Prelude.{ℕ, Bool, false, List, filter, slice_index_or}
use Rattle.fts_model.specs.Queries.{matches}
use Rattle.fts_model.specs.QueryValues.{QueryValue}
use Rattle.fts_segment.specs.Segments.{SegmentValue, numbers_where}

-- the numbers of the documents that match
abbrev pub segment_hits : SegmentValue → QueryValue → List ℕ
segment_hits segment query = numbers_where (λ d. matches segment.schema d.value query) 0 segment.documents

-- whether a document's bit is set
abbrev pub is_live : List Bool → ℕ → Bool
is_live live doc = slice_index_or live doc false

-- those of them whose bit is set
abbrev pub live_hits : SegmentValue → List Bool → QueryValue → List ℕ
live_hits segment live query = filter (is_live live) (segment_hits segment query)
