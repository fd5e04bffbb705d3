-- The invariant of the loop of `merges::end_entries::others`.
use Rattle.std.proofs.Common.{◌≡◌, take}
use Rattle.fts_snapshots.specs.Merges.{without}
use Rattle.fts_snapshots.proofs.merges.end_entries.others.Given as goal

abbrev pub invariant-loop-entry : goal.invariant-loop-entry
invariant-loop-entry l = l.others.items ≡ without (take l.entry-index l.entries) l.ids
