-- The count so far, which is at most `cap` for each end.
use Rattle.std.proofs.Common.{◌≡◌, ◌≤◌, ◌*◌, length, take}
use Rattle.fts_rounds.specs.Shuffles.{submissions}
use Rattle.fts_rounds.proofs.round.submitted.Given as goal

abbrev pub invariant-loop-end : goal.invariant-loop-end
invariant-loop-end l = record {
  count : l.count ≡ length (submissions (take l.end-index l.ends));
  few : l.count ≤ l.end-index * l.limits.cap;
}
