-- The segments of a snapshot in runs, as a list stores them and an iterator reads them.
use Rattle.std.specs.Prelude.{List, ◌++◌, flat_map}
use Rattle.std.specs.Arc.{arc_value}
use Rattle.std.specs.declared.sync.Arc.{Arc}
use Rattle.std.specs.declared.vec.Vec.{Vec}
use Rattle.fts_snapshots.specs.Entries.{EntryValue}
use Rattle.fts_snapshots.specs.declared.entries.entry_list.EntryIter.{EntryIter}

-- the segments of runs, one run after the other
abbrev pub entries_of : {Z : Type 0} → List (Arc (Vec EntryValue Z) Z) → List EntryValue
entries_of {Z} runs = flat_map (λ (run : Arc (Vec EntryValue Z) Z). (arc_value run).items) runs

-- the segments that an iterator has not reached
abbrev pub entries_ahead : EntryIter → List EntryValue
entries_ahead entries = entries.run.now ++ entries_of entries.runs.now
