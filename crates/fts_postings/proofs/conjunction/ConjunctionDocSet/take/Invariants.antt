-- The documents so far are at the front.
use Rattle.std.proofs.Common.{◌-◌, ◌≤◌}
use Rattle.fts_postings.specs.Conjoined.{AllFollow, common_of}
use Rattle.fts_postings.proofs.TakesLemmas.{Taken}
use Rattle.fts_postings.proofs.conjunction.ConjunctionDocSet.take.Given as goal

abbrev pub invariant-loop-taken : goal.invariant-loop-taken
invariant-loop-taken g l = record {
  front : Taken (common_of l.initial.self) (common_of l.self) l.out l.taken;
  follows : AllFollow l.initial.self l.self;
  room : l.taken ≤ 128;
}

abbrev pub decreases-loop-taken : goal.decreases-loop-taken
decreases-loop-taken g l = 128 - l.taken
