-- The invariant of the loop of `merges::end_entries::is_some_live`.
use Rattle.std.proofs.Common.{◌≡◌, nat_eq, drop}
use Rattle.std.specs.HashSet.{contains}
use Rattle.std.specs.List.{list_any, flat_map}
use Rattle.fts_snapshots.specs.Entries.{live_in}
use Rattle.fts_snapshots.proofs.merges.end_entries.is_some_live.Given as goal

abbrev pub invariant-loop-entry : goal.invariant-loop-entry
invariant-loop-entry l =
    list_any (λ d. contains nat_eq l.stamps d.stamp) (flat_map live_in (drop l.entry-index l.entries)) ≡ list_any (λ d. contains nat_eq l.stamps d.stamp)
    (flat_map live_in l.entries)
