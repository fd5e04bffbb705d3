-- The invariant of the loop of `mergeable::live_in`.
use Rattle.std.proofs.Common.{◌≡◌, ◌≤◌, ◌+◌, sum_by}
use Rattle.fts_snapshots.specs.Entries.{live_count}
use Rattle.fts_snapshots.specs.EntryLists.{entries_ahead}
use Rattle.fts_snapshots.proofs.mergeable.live_in.Given as goal

abbrev pub invariant-loop-entry : goal.invariant-loop-entry
invariant-loop-entry l =
    (goal.iterator-loop-entry).can_next l.entry-iterator × (goal.iterator-loop-entry).is_finite l.entry-iterator
    × (l.live + sum_by live_count (entries_ahead l.entry-iterator) ≡ sum_by live_count l.entries) × (l.live ≤ 1048576)
