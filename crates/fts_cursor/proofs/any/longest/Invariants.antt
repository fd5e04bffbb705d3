-- None of those so far is longer.
use Rattle.std.proofs.Common.{◌^◌, ◌≤◌, length, take}
use Rattle.std.specs.Prelude.{All}
use Rattle.fts_cursor.proofs.any.longest.Given as goal

abbrev pub invariant-loop-bits : goal.invariant-loop-bits
invariant-loop-bits l = record {
  longest : All (λ b. length b.now ≤ l.docs) (take l.bits-index l.list);
  few : l.docs ≤ 2 ^ 32;
}
