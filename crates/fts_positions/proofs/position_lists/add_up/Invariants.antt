-- The sums so far are written.
use Rattle.std.proofs.Common.{◌≡◌, ◌+◌, ◌≤◌, ℕ, get_or, sum, take}
use Rattle.fts_positions.proofs.position_lists.add_up.Given as goal

abbrev pub invariant-loop-index : goal.invariant-loop-index
invariant-loop-index l = record {
  end : l.end ≡ l.start + sum (take l.index l.counts);
  written : (index : ℕ) → index ≤ l.index → get_or l.out index 0 ≡ l.start + sum (take index l.counts);
}
