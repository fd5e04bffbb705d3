-- None of those so far is less.
use Rattle.std.proofs.Common.{ℕ, ◌<◌, ◌≤◌, get_or, length}
use Rattle.fts_cursor.proofs.query_tree.place_of_least.Given as goal

abbrev pub invariant-loop-place : goal.invariant-loop-place
invariant-loop-place l = record {
  inside : l.least < length l.numbers;
  least_so_far : (k : ℕ) → k < l.place → get_or l.numbers l.least 0 ≤ get_or l.numbers k 0;
}
