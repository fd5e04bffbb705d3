-- The effect of a merge on segments.
use Rattle.std.specs.Prelude.{ℕ, ◌==◌, nat_lt, Bool, not, Option, Some, None, List}
use Rattle.std.specs.Prelude.{[], ◌∷◌, ◌++◌, filter, flat_map, if◌then◌else◌}
use Rattle.std.specs.List.{list_any}
use Rattle.fts_base.specs.declared.refusal.Refusal.{Refusal}
use Rattle.fts_base.specs.declared.refusal.Refusal.TheVariants.{NoSegments, UnknownSegment, SegmentTwice, TooLarge}
use Rattle.fts_model.specs.Limits.{most_merged}
use Rattle.fts_snapshots.specs.Entries.{EntryValue}

-- whether a number is one of these
abbrev pub is_among : List ℕ → ℕ → Bool
is_among ids id = list_any (λ other. id == other) ids

-- whether there is a segment of this number
abbrev pub is_there : List EntryValue → ℕ → Bool
is_there entries id = list_any (λ entry. entry.id == id) entries

-- a list of the segment of this number, if there is one
abbrev pub entry_at : List EntryValue → ℕ → List EntryValue
entry_at [] id = []
entry_at (entry ∷ entries) id = if entry.id == id then entry ∷ [] else entry_at entries id

-- the segments of these numbers, in the order of the numbers
abbrev pub entries_at : List EntryValue → List ℕ → List EntryValue
entries_at entries ids = flat_map (entry_at entries) ids

-- the segments with other numbers
abbrev pub without : List EntryValue → List ℕ → List EntryValue
without entries ids = filter (λ entry. not (is_among ids entry.id)) entries

-- the refusal of numbers that follow others: by the first that no segment has, or that comes before it
abbrev pub fault_behind : List EntryValue → List ℕ → List ℕ → Option Refusal
fault_behind entries before [] = None
fault_behind entries before (id ∷ ids) =
    if is_there entries id
    then (if is_among before id then Some (SegmentTwice id) else fault_behind entries (before ++ id ∷ []) ids)
    else Some (UnknownSegment id)

-- the refusal of numbers of segments to merge: there is none, or one that no segment has, or one twice
abbrev pub names_fault : List EntryValue → List ℕ → Option Refusal
names_fault entries [] = Some NoSegments
names_fault entries (id ∷ ids) = fault_behind entries [] (id ∷ ids)

-- the refusal of segments to merge with over 1,048,576 live documents together
abbrev pub size_fault : ℕ → Option Refusal
size_fault live = if nat_lt most_merged live then Some TooLarge else None
