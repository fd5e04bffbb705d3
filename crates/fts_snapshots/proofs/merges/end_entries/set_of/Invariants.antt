-- The invariant of the loop of `merges::end_entries::set_of`.
use Rattle.std.proofs.Common.{nat_eq, take}
use Rattle.std.specs.HashSet.{contains}
use Rattle.fts_snapshots.specs.Lookups.{TellsOf}
use Rattle.fts_snapshots.proofs.merges.end_entries.set_of.Given as goal

abbrev pub invariant-loop-id : goal.invariant-loop-id
invariant-loop-id l = TellsOf (contains nat_eq l.set) (take l.id-index l.ids)
