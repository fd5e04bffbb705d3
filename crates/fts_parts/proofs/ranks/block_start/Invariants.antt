use Rattle.std.proofs.Common.{◌≡◌, ◌<◌, ◌≤◌, ◌/◌, ℕ, get_or, length}
use Rattle.fts_parts.proofs.ranks.block_start.Given as goal

abbrev pub invariant-loop-start : goal.invariant-loop-start
invariant-loop-start l = record {
  within : l.start < length l.docs;
  block : (i : ℕ) → l.start ≤ i → i < length l.docs → get_or l.docs i 0 / 128 ≡ l.block;
}

abbrev pub decreases-loop-start : goal.decreases-loop-start
decreases-loop-start l = l.start
