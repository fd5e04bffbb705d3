-- The result of a merge: a segment of the sources' live documents, and the origin of each.
use Rattle.std.specs.Prelude.{◌≡◌, ◌≢◌, ◌<◌, ℕ, ◌+◌, Bool, List, [], ◌∷◌, ◌++◌, All, AllPairs, length, map}
use Rattle.fts_segment.specs.Segments.{SegmentValue, numbers_where}
pub use Rattle.fts_segment.specs.Sources.{SourceValue, HasBits, live_count, contents, schema_of, AreOfOneSchema}
use Rattle.fts_merge.specs.declared.origin.Origin.{Origin}

-- the numbers of the bits that are set, rising
abbrev pub numbers_set : List Bool → List ℕ
numbers_set live = numbers_where (λ bit. bit) 0 live

-- the origins of the live documents of the source of this index
abbrev pub origins_in : ℕ → List Bool → List Origin
origins_in source live = map (λ document. record { source = source; document = document }) (numbers_set live)

-- the origins of the live documents of sources, the first of which has the index `first`
abbrev pub origins_from : ℕ → List SourceValue → List Origin
origins_from first [] = []
origins_from first (source ∷ sources) = origins_in first source.live ++ origins_from (first + 1) sources

-- a merged segment, the origin of each of its documents, and the number of its sources
pub record MergedValue : Type 0 where
  pub segment : SegmentValue
  pub origins : List Origin
  pub sources : ℕ

-- a merged segment of this segment, these origins and this number of sources
abbrev pub made_of : SegmentValue → List Origin → ℕ → MergedValue
made_of segment origins sources = record { segment = segment; origins = origins; sources = sources }

-- the result of merging sources
abbrev pub merge_of : List SourceValue → MergedValue
merge_of sources =
    made_of (record { schema = schema_of sources; documents = contents sources })
    (origins_from 0 sources) (length sources)

-- every merged segment has one origin for each document, no two the same, each in one of the sources
pub record IsMerged (merged : MergedValue) : Type 0 where
  pub paired : length merged.origins ≡ length merged.segment.documents
  pub once : AllPairs (λ a b. a ≢ b) merged.origins
  pub named : All (λ origin. origin.source < merged.sources) merged.origins
