-- The invariant of the loop of `merges::end_entries::has_one`.
use Rattle.std.proofs.Common.{◌≡◌, nat_eq}
use Rattle.std.specs.HashSet.{contains}
use Rattle.fts_snapshots.proofs.LateBitLemmas.{any_from}
use Rattle.fts_snapshots.proofs.merges.end_entries.has_one.Given as goal

abbrev pub invariant-loop-document : goal.invariant-loop-document
invariant-loop-document l =
    any_from (λ d. contains nat_eq l.stamps d.stamp) l.entry.segment.documents l.entry.live l.document ≡ any_from (λ d. contains nat_eq l.stamps d.stamp)
    l.entry.segment.documents l.entry.live 0
