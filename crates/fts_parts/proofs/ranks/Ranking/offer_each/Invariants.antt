use Rattle.std.proofs.Common.{◌≤◌, drop, length}
use Rattle.fts_parts.specs.Ranks.{Offers}
use Rattle.fts_parts.proofs.ranks.Ranking.offer_each.Given as goal

abbrev pub invariant-loop-place : goal.invariant-loop-place
invariant-loop-place l = record {
  kept : Offers l.self (drop l.left l.docs) l.fn.top_k l.top_k;
  within : l.left ≤ length l.docs;
}

abbrev pub decreases-loop-place : goal.decreases-loop-place
decreases-loop-place l = l.left
