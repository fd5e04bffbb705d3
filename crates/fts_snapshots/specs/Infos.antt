-- The sizes of a snapshot's segments, and the segments that are worth merging.
use Rattle.std.specs.Prelude.{ℕ, List, [], ◌∷◌, ◌++◌, length, map, slice_get, sum_by}
use Rattle.std.specs.Option.{option_map_or}
use Rattle.fts_merge.specs.Levels.{candidates, candidates_by}
use Rattle.fts_merge.specs.declared.merge_policy.MergePolicy.{MergePolicy}
use Rattle.fts_merge.specs.declared.merge_policy.SegmentSize.{SegmentSize}
use Rattle.fts_snapshots.specs.Entries.{EntryValue, live_count}
use Rattle.fts_snapshots.specs.Merges.{entries_at, without}
use Rattle.fts_snapshots.specs.Snapshots.{SnapshotValue}
use Rattle.fts_snapshots.specs.declared.entries.entry.SegmentInfo.{SegmentInfo}

-- the number of a segment, and its numbers of documents and of live documents
abbrev pub info_of : EntryValue → SegmentInfo
info_of entry = record { id = entry.id; docs = length entry.segment.documents; live = live_count entry }

-- the sizes of segments after a merge of those with these numbers. One under the next number replaces them. All of its
-- documents are live, as many as the sources had live ones together.
abbrev pub infos_after_merge : List ℕ → SnapshotValue → List SegmentInfo
infos_after_merge ids s =
    let live = sum_by live_count (entries_at s.entries ids) in
    map info_of (without s.entries ids) ++ record { id = s.next_id; docs = live; live = live } ∷ []

-- the number of the segment at an index
abbrev pub id_at : List EntryValue → ℕ → ℕ
id_at entries index = option_map_or (λ entry. entry.id) (slice_get entries index) 0

-- the candidates by the numbers of live documents, each as the numbers of its segments
abbrev pub candidate_ids : List EntryValue → List (List ℕ)
candidate_ids entries = map (λ indexes. map (id_at entries) indexes) (candidates (map live_count entries))

-- the size of a segment, for a merge policy
abbrev pub size_of : EntryValue → SegmentSize
size_of entry = record { docs = length entry.segment.documents; live = live_count entry }

-- the candidates of a policy, each as the numbers of its segments
abbrev pub candidate_ids_by : MergePolicy → List EntryValue → List (List ℕ)
candidate_ids_by policy entries =
    map (λ indexes. map (id_at entries) indexes) (candidates_by policy (map size_of entries))
