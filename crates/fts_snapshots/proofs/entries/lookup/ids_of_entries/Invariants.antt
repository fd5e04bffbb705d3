-- The invariant of the loop of `entries::lookup::ids_of_entries`.
use Rattle.std.proofs.Common.{◌≡◌, take}
use Rattle.fts_snapshots.specs.MergedSegments.{ids_of}
use Rattle.fts_snapshots.proofs.entries.lookup.ids_of_entries.Given as goal

abbrev pub invariant-loop-entry : goal.invariant-loop-entry
invariant-loop-entry l = l.numbers.items ≡ ids_of (take l.entry-index l.entries)
