-- Merged segments with the numbers of their sources, and the jobs that make them.
use Rattle.std.specs.Prelude.{◌≡◌, ◌≢◌, ◌<◌, ◌≤◌, ℕ, List, map, length, slice_index, All, AllPairs}
use Rattle.fts_merge.specs.Merges.{MergedValue, IsMerged, AreOfOneSchema, merge_of}
use Rattle.fts_model.specs.Limits.{most_merged}
use Rattle.fts_snapshots.specs.Entries.{EntryValue, IsEntry}
use Rattle.fts_snapshots.specs.Sources.{source_of}

-- the numbers of segments
abbrev pub ids_of : List EntryValue → List ℕ
ids_of entries = map (λ entry. entry.id) entries

-- every job has at least one segment, all of one schema, and no number twice
pub record IsJob (entries : List EntryValue) : Type 0 where
  pub some : 0 < length entries
  pub each : All IsEntry entries
  pub schemas : AreOfOneSchema (map source_of entries)
  pub different : AllPairs (λ a b. a ≢ b) (ids_of entries)

-- a merged segment, and the numbers of its sources
pub record MergedSegmentValue : Type 0 where
  pub merged : MergedValue
  pub ids : List ℕ

-- a merged segment with these numbers of its sources
abbrev pub segment_of : MergedValue → List ℕ → MergedSegmentValue
segment_of merged ids = record { merged = merged; ids = ids }

-- every merged segment has origins that are all different, each in one of its sources, and no two sources with one
-- number
pub record IsMergedSegment (m : MergedSegmentValue) : Type 0 where
  pub merged : IsMerged m.merged
  pub sources : m.merged.sources ≡ length m.ids
  pub some : 0 < length m.ids
  pub different : AllPairs (λ a b. a ≢ b) m.ids
  pub few : length m.merged.segment.documents ≤ most_merged

-- the merged segment that a job makes of its segments
abbrev pub merged_of : List EntryValue → MergedSegmentValue
merged_of entries = segment_of (merge_of (map source_of entries)) (ids_of entries)

-- the origins of a merged segment's documents: the number of the source, and that of the document there
abbrev pub origins_of : MergedSegmentValue → List (ℕ × ℕ)
origins_of m = map (λ origin. (slice_index m.ids origin.source, origin.document)) m.merged.origins
