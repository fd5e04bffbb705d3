-- Looking up segments, and numbers.
use Rattle.std.specs.Prelude.{◌≡◌, ℕ, suc, ◌==◌, Bool, false, Option, Some, None}
use Rattle.std.specs.Prelude.{List, [], ◌∷◌, slice_get, if◌then◌else◌}
use Rattle.std.specs.Option.{option_map, option_map_or}
use Rattle.fts_snapshots.specs.Entries.{EntryValue}
use Rattle.fts_snapshots.specs.Merges.{is_among}
use Rattle.fts_snapshots.specs.Successors.{is_set}

-- the index of the segment of this number, if there is one
abbrev pub place_in : List EntryValue → ℕ → Option ℕ
place_in [] id = None
place_in (entry ∷ entries) id = if entry.id == id then Some 0 else option_map suc (place_in entries id)

-- whether a document of the segment at an index is live
abbrev pub is_live_there : List EntryValue → Option ℕ → ℕ → Bool
is_live_there entries None document = false
is_live_there entries (Some place) document =
    option_map_or (λ entry. is_set entry.live document) (slice_get entries place) false

-- a test accepts exactly these numbers
abbrev pub TellsOf : (ℕ → Bool) → List ℕ → Type 0
TellsOf test ids = (id : ℕ) → test id ≡ is_among ids id
