-- The documents so far are at the front.
use Rattle.std.proofs.Common.{◌≡◌, ◌-◌, ◌≤◌}
use Rattle.fts_postings.proofs.TakesLemmas.{Taken}
use Rattle.fts_postings.proofs.WindowLemmas.{found}
use Rattle.fts_postings.proofs.window.Window.take.Given as goal

abbrev pub invariant-loop-taken : goal.invariant-loop-taken
invariant-loop-taken l = record {
  front : Taken (found l.initial.self) (found l.self) l.out l.taken;
  last : l.self.last ≡ l.initial.self.last;
  room : l.taken ≤ 128;
}

abbrev pub decreases-loop-taken : goal.decreases-loop-taken
decreases-loop-taken l = 128 - l.taken
