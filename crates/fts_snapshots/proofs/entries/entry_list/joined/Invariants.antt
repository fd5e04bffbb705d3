-- The invariant of the loop of `entries::entry_list::joined`.
use Rattle.std.proofs.Common.{◌≡◌, ◌++◌}
use Rattle.fts_snapshots.specs.EntryLists.{entries_ahead}
use Rattle.fts_snapshots.proofs.entries.entry_list.joined.Given as goal

abbrev pub invariant-loop-entry : goal.invariant-loop-entry
invariant-loop-entry l =
    (goal.iterator-loop-entry).can_next l.entry-iterator × (goal.iterator-loop-entry).is_finite l.entry-iterator
    × (l.all.items ++ entries_ahead l.entry-iterator ≡ entries_ahead l.fn.entries)
