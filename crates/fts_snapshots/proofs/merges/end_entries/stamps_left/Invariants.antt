-- The invariant of the loop of `merges::end_entries::stamps_left`.
use Rattle.std.proofs.Common.{◌≡◌, ℕ, nat_eq}
use Rattle.std.specs.HashSet.{contains}
use Rattle.fts_snapshots.specs.Merges.{is_among}
use Rattle.fts_snapshots.proofs.LateBitLemmas.{stamps_to, gone_bits}
use Rattle.fts_snapshots.proofs.merges.end_entries.stamps_left.Given as goal

abbrev pub invariant-loop-document : goal.invariant-loop-document
invariant-loop-document l = (stamp : ℕ) →
    contains nat_eq l.stamps stamp ≡ is_among (stamps_to l.segment.merged.segment.documents (gone_bits l.lookup l.segment) l.document) stamp
