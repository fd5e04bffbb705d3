-- Those of the words so far are counted.
use Rattle.std.proofs.Common.{◌≡◌, ◌≤◌, ◌-◌, ◌*◌, ◌&&◌, length}
use Rattle.fts_postings.specs.Windows.{is_set, passing}
use Rattle.fts_sets.specs.Leaves.{has_within}
use Rattle.fts_sets.proofs.rows.count_within.Given as goal

abbrev pub invariant-loop-place : goal.invariant-loop-place
invariant-loop-place l = record {
  stop : 64 * l.place - 64 * l.index ≤ 64 * l.end - 64 * l.index;
  few : l.count ≤ 64 * (l.place - l.index);
  counted : l.count ≡ length (passing (λ d. has_within l.low l.high l.column d && is_set l.bits d) (64 * l.index) (64 * l.place - 64 * l.index));
}
