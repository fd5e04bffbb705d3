-- The documents so far are at the front.
use Rattle.fts_cursor.specs.Standing.{Walked}
use Rattle.fts_postings.proofs.TakesLemmas.{Taken}
use Rattle.fts_cursor.proofs.phrase.PhraseCursorDocSet.take.Given as goal

abbrev pub invariant-loop-taken : goal.invariant-loop-taken
invariant-loop-taken l = record {
  front : Taken l.initial.self.remaining l.self.remaining l.out l.taken;
  walked : Walked l.initial.self l.self;
}
