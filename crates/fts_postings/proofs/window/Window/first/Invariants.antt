-- What was passed has no mark.
use Rattle.std.proofs.Common.{◌≡◌, suc, ◌-◌}
use Rattle.fts_postings.proofs.WindowLemmas.{found}
use Rattle.fts_postings.proofs.window.Window.first.Given as goal

abbrev pub invariant-loop-self : goal.invariant-loop-self
invariant-loop-self l = record {
  same : found l.self ≡ found l.initial.self;
  last : l.self.last ≡ l.initial.self.last;
}

abbrev pub decreases-loop-self : goal.decreases-loop-self
decreases-loop-self l = suc l.self.last - l.self.from
