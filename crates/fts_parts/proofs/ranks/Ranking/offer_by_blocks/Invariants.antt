use Rattle.std.proofs.Common.{◌≤◌, drop, length}
use Rattle.fts_parts.specs.Ranks.{Offers}
use Rattle.fts_parts.proofs.ranks.Ranking.offer_by_blocks.Given as goal

abbrev pub invariant-loop-left : goal.invariant-loop-left
invariant-loop-left l = record {
  kept : Offers l.self (drop l.left l.docs) l.fn.top_k l.top_k;
  within : l.left ≤ length l.docs;
}

abbrev pub decreases-loop-left : goal.decreases-loop-left
decreases-loop-left l = l.left
