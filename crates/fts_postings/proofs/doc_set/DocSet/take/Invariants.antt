-- The documents so far are at the front.
use Rattle.fts_postings.proofs.TakesLemmas.{Taken}
use Rattle.fts_postings.proofs.doc_set.DocSet.take.Given as goal

abbrev pub invariant-loop-taken : goal.invariant-loop-taken
invariant-loop-taken g l = Taken (g.Self.DocSet.remaining l.initial.self) (g.Self.DocSet.remaining l.self) l.out l.taken
