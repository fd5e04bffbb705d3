-- Those of the words so far are counted.
use Rattle.std.proofs.Common.{◌≡◌, ◌≤◌, ◌<◌, ◌+◌, ◌*◌, ℕ, Bool, get_or, length}
use Rattle.fts_postings.specs.Windows.{passing}
use Rattle.fts_sets.specs.Rows.{Tells}
use Rattle.fts_sets.proofs.rows.ones.Given as goal

abbrev pub invariant-loop-place : goal.invariant-loop-place
invariant-loop-place l = record {
  few : l.count ≤ 64 * l.place;
  counted : (test : ℕ → Bool) (from : ℕ) → ((k : ℕ) → k < 16 → Tells test (from + 64 * k) (get_or l.row k 0)) →
      l.count ≡ length (passing test from (64 * l.place));
}
