-- The invariant of the loop of `merges::named_entries::named_entries`.
use Rattle.std.proofs.Common.{◌≡◌, [], take, drop, nat_eq}
use Rattle.std.specs.HashSet.{contains}
use Rattle.fts_snapshots.specs.Merges.{entries_at, fault_behind}
use Rattle.fts_snapshots.specs.Lookups.{TellsOf}
use Rattle.fts_snapshots.proofs.merges.named_entries.named_entries.Given as goal

abbrev pub invariant-loop-id : goal.invariant-loop-id
invariant-loop-id l = record {
  names : TellsOf (contains nat_eq l.names) (take l.id-index l.ids);
  found : l.found.items ≡ entries_at l.entries (take l.id-index l.ids);
  left : fault_behind l.entries (take l.id-index l.ids) (drop l.id-index l.ids) ≡ fault_behind l.entries [] l.ids;
}
