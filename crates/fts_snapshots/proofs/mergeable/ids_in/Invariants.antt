-- What stays true in the loop of `mergeable::ids_in`.
use Rattle.std.proofs.Common.{◌≡◌, ◌++◌}
use Rattle.fts_snapshots.specs.EntryLists.{entries_ahead}
use Rattle.fts_snapshots.specs.MergedSegments.{ids_of}
use Rattle.fts_snapshots.proofs.mergeable.ids_in.Given as goal

abbrev pub invariant-loop-entry : goal.invariant-loop-entry
invariant-loop-entry l =
    (goal.iterator-loop-entry).can_next l.entry-iterator × (goal.iterator-loop-entry).is_finite l.entry-iterator
    × (l.ids.items ++ ids_of (entries_ahead l.entry-iterator) ≡ ids_of l.entries)
