-- The words so far have each bit set.
use Rattle.std.proofs.Common.{◌≡◌, ◌<◌, ◌-◌, ◌^◌, ℕ, get_or, length}
use Rattle.fts_sets.proofs.rows.begin.Given as goal

abbrev pub invariant-loop-place : goal.invariant-loop-place
invariant-loop-place l = record {
  long : length l.row ≡ 16;
  ones : (k : ℕ) → k < l.place → get_or l.row k 0 ≡ 2 ^ 64 - 1;
}
