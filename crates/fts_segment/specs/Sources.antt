-- Segments with live bits, as the sources of a merge.
use Rattle.std.specs.Prelude.{◌≡◌, ℕ, Bool, List, [], ◌∷◌, All, length, sum_by, count_by, flat_map}
use Rattle.fts_model.specs.declared.schema.Field.{Field}
use Rattle.fts_model.specs.declared.operation.Stamped.{Stamped}
use Rattle.fts_model.specs.Documents.{DocumentValue}
use Rattle.fts_segment.specs.Segments.{SegmentValue}
use Rattle.fts_segment.specs.Contents.{content_of}

-- a source of a merge: a segment, and a live bit for each of its documents
pub record SourceValue : Type 0 where
  pub segment : SegmentValue
  pub live : List Bool

-- there is one bit per document
abbrev pub HasBits : SourceValue → Type 0
HasBits source = length source.live ≡ length source.segment.documents

-- the number of live documents of all sources
abbrev pub live_count : List SourceValue → ℕ
live_count sources = sum_by (λ source. count_by (λ bit. bit) source.live) sources

-- the live documents of sources, one source after the other
abbrev pub contents : List SourceValue → List (Stamped DocumentValue)
contents sources = flat_map (λ source. content_of source.segment source.live) sources

-- the schema of sources: that of the first
abbrev pub schema_of : List SourceValue → List Field
schema_of [] = []
schema_of (source ∷ sources) = source.segment.schema

-- all sources have one schema
abbrev pub AreOfOneSchema : List SourceValue → Type 0
AreOfOneSchema sources = All (λ source. source.segment.schema ≡ schema_of sources) sources

-- the segment of the sources' live documents
abbrev pub joined_segment : List SourceValue → SegmentValue
joined_segment sources = record { schema = schema_of sources; documents = contents sources }
