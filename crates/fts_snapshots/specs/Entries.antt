-- The segments of a snapshot, each with its number and its live bits, and their content.
use Rattle.std.specs.Prelude.{◌≡◌, ◌≤◌, ℕ, Bool, List, length, count_by, flat_map}
use Rattle.std.specs.List.{list_any}
use Rattle.fts_model.specs.declared.operation.Stamped.{Stamped}
use Rattle.fts_model.specs.Limits.{most_merged}
use Rattle.fts_model.specs.Documents.{DocumentValue}
use Rattle.fts_segment.specs.Segments.{SegmentValue}
use Rattle.fts_segment.specs.Contents.{content_of}
use Rattle.fts_snapshots.specs.Order.{in_stamp_order}

-- a segment with its number and its live bits
pub record EntryValue : Type 0 where
  pub id : ℕ
  pub segment : SegmentValue
  pub live : List Bool

-- every segment of a snapshot has one bit per document, and at most `most_merged` documents
pub record IsEntry (entry : EntryValue) : Type 0 where
  pub bits : length entry.live ≡ length entry.segment.documents
  pub few : length entry.segment.documents ≤ most_merged

-- the live documents of a segment, by their numbers
abbrev pub live_in : EntryValue → List (Stamped DocumentValue)
live_in entry = content_of entry.segment entry.live

-- the number of live documents of a segment
abbrev pub live_count : EntryValue → ℕ
live_count entry = count_by (λ bit. bit) entry.live

-- whether a segment has a live document
abbrev pub has_live : EntryValue → Bool
has_live entry = list_any (λ bit. bit) entry.live

-- the live documents of all segments, in the order of their stamps
abbrev pub content : List EntryValue → List (Stamped DocumentValue)
content entries = in_stamp_order (flat_map live_in entries)
