-- The invariant of the loop of `snapshot::infos`.
use Rattle.std.proofs.Common.{◌≡◌, ◌++◌, map}
use Rattle.fts_snapshots.specs.EntryLists.{entries_ahead}
use Rattle.fts_snapshots.specs.Infos.{info_of}
use Rattle.fts_snapshots.proofs.snapshot.infos.Given as goal

abbrev pub invariant-loop-entry : goal.invariant-loop-entry
invariant-loop-entry l =
    (goal.iterator-loop-entry).can_next l.entry-iterator × (goal.iterator-loop-entry).is_finite l.entry-iterator
    × (l.infos.items ++ map info_of (entries_ahead l.entry-iterator) ≡ map info_of l.entries)
