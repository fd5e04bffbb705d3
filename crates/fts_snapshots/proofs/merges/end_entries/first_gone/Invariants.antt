-- The invariant of the loop of `merges::end_entries::first_gone`.
use Rattle.std.proofs.Common.{◌≡◌, drop}
use Rattle.fts_snapshots.specs.LateMerges.{first_gone}
use Rattle.fts_snapshots.proofs.merges.end_entries.first_gone.Given as goal

abbrev pub invariant-loop-id : goal.invariant-loop-id
invariant-loop-id l = first_gone l.lookup (drop l.id-index l.ids) ≡ first_gone l.lookup l.ids
