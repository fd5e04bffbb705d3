-- The effect of a merge on the snapshot in which it ends.
use Rattle.std.specs.Prelude.{ℕ, ◌+◌, ◌||◌, ◌==◌, Bool, false, not, Option, None, Some, List}
use Rattle.std.specs.Prelude.{[], ◌∷◌, ◌++◌, map, filter, flat_map, if◌then◌else◌}
use Rattle.std.specs.List.{list_any}
use Rattle.std.specs.Option.{option_map}
use Rattle.fts_base.specs.declared.refusal.Refusal.{Refusal}
use Rattle.fts_base.specs.declared.refusal.Refusal.TheVariants.{SourceGone}
use Rattle.fts_base.specs.Results.{first_of}
use Rattle.fts_segment.specs.Contents.{where_set}
use Rattle.fts_snapshots.specs.Entries.{EntryValue, live_in, has_live}
use Rattle.fts_snapshots.specs.Commits.{numbers_fault}
use Rattle.fts_snapshots.specs.Merges.{is_among, is_there, entries_at, without}
use Rattle.fts_snapshots.specs.MergedSegments.{MergedSegmentValue, merged_of, origins_of}
use Rattle.fts_snapshots.specs.Snapshots.{SnapshotValue}
use Rattle.fts_snapshots.specs.Successors.{is_set}

-- whether a document of the segment of this number is live
abbrev pub is_live_at : List EntryValue → ℕ → ℕ → Bool
is_live_at [] id document = false
is_live_at (entry ∷ entries) id document =
    if entry.id == id then is_set entry.live document else is_live_at entries id document

-- the merged segment under this number, with the live bits that its sources have among these segments
abbrev pub ended : ℕ → MergedSegmentValue → List EntryValue → EntryValue
ended id m entries = record {
  id = id;
  segment = m.merged.segment;
  live = map (λ origin. is_live_at entries origin.0 origin.1) (origins_of m);
}

-- the segments after a merge has ended: the merged segment, if it has a live document, replaces its sources
abbrev pub replaced : ℕ → MergedSegmentValue → List EntryValue → List EntryValue
replaced id m entries = without entries m.ids ++ filter has_live (ended id m entries ∷ [])

-- the snapshot after a merge has ended, with the live bits that its sources have by then
abbrev pub after_end : MergedSegmentValue → SnapshotValue → SnapshotValue
after_end m s = record {
  schema = s.schema;
  entries = replaced s.next_id m s.entries;
  next_id = s.next_id + 1;
}

-- the snapshot after a merge of the segments with these numbers is started, run and ended at once
abbrev pub after_merge : List ℕ → SnapshotValue → SnapshotValue
after_merge ids s = after_end (merged_of (entries_at s.entries ids)) s

-- the first of these numbers that no segment has
abbrev pub first_gone : List EntryValue → List ℕ → Option ℕ
first_gone entries [] = None
first_gone entries (id ∷ ids) = if is_there entries id then first_gone entries ids else Some id

-- the stamps of documents whose source segment is gone
abbrev pub stamps_left : MergedSegmentValue → List EntryValue → List ℕ
stamps_left m entries =
    map (λ document. document.stamp)
    (where_set m.merged.segment.documents (map (λ origin. not (is_there entries origin.0)) (origins_of m)))

-- whether a document of one of these stamps is live
abbrev pub is_some_live : List EntryValue → List ℕ → Bool
is_some_live entries stamps = list_any (λ document. is_among stamps document.stamp) (flat_map live_in entries)

-- whether all sources are gone, or one that is gone has a document that is live in another segment
abbrev pub is_gone : MergedSegmentValue → List EntryValue → Bool
is_gone m entries = not (list_any (is_there entries) m.ids) || is_some_live entries (stamps_left m entries)

-- the refusal of a merge that can't end because a source is missing
abbrev pub gone_fault : MergedSegmentValue → List EntryValue → Option Refusal
gone_fault m entries = if is_gone m entries then option_map SourceGone (first_gone entries m.ids) else None

-- the refusal of a merge that can't end: a source is missing, or numbers are used up
abbrev pub end_fault : ℕ → MergedSegmentValue → List EntryValue → Option Refusal
end_fault next m entries = first_of (gone_fault m entries) (numbers_fault (next + 1))
