-- Documents whose fields are being indexed.
use Rattle.std.specs.Prelude.{◌≡◌, ◌<◌, ◌≤◌, List, All, length}
use Rattle.fts_model.specs.Limits.{most_merged}
use Rattle.fts_segment.specs.Segments.{SegmentValue, AllFit, AreDocuments}
use Rattle.fts_segment.specs.Sources.{SourceValue, contents, live_count}

-- a segment can have these documents, and if there are sources, they are the live ones of these
pub record IsJoining (segment : SegmentValue) (sources : List SourceValue) : Type 0 where
  pub fit : AllFit segment.schema segment.documents
  pub documents_are : AreDocuments segment.documents
  pub few : length segment.documents ≤ most_merged
  pub live : live_count sources ≤ most_merged
  pub schemas : All (λ source. source.segment.schema ≡ segment.schema) sources
  pub contents_are : 0 < length sources → segment.documents ≡ contents sources
