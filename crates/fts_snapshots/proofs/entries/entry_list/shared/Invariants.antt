-- The invariant of the loop of `entries::entry_list::shared`.
use Rattle.std.proofs.Common.{◌≡◌, take}
use Rattle.fts_snapshots.specs.EntryLists.{entries_of}
use Rattle.fts_snapshots.proofs.entries.entry_list.shared.Given as goal

abbrev pub invariant-loop-run : goal.invariant-loop-run
invariant-loop-run l = entries_of l.copy.items ≡ entries_of (take l.run-index l.runs)
