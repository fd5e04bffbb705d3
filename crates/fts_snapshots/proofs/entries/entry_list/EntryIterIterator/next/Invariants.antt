-- The invariant of the loop of `entries::entry_list::EntryIter::next`.
use Rattle.std.proofs.Common.{◌≡◌, length}
use Rattle.fts_snapshots.specs.EntryLists.{entries_ahead}
use Rattle.fts_snapshots.proofs.entries.entry_list.EntryIterIterator.next.Given as goal

abbrev pub invariant-loop-run : goal.invariant-loop-run
invariant-loop-run l = entries_ahead l.self ≡ entries_ahead l.initial.self

abbrev pub decreases-loop-run : goal.decreases-loop-run
decreases-loop-run l = length l.self.runs.now
