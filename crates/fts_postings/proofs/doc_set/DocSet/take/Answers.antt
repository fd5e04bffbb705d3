-- Each turn takes the first document that is left.
use Rattle.std.proofs.Common.{arith}
use Rattle.fts_postings.proofs.TakesLemmas.{Taken-all, Taken-full, Taken-more}
use Rattle.fts_postings.proofs.doc_set.DocSet.take.Goals as goal

pub loop-taken-preserved : goal.loop-taken-preserved
loop-taken-preserved g c = Taken-more _ _ c.loop-taken.out _ c.loop-taken.taken c.in-Some.doc c.loop-taken.invariant c.in-Some.ensures.first (omega arith)
    c.advance.ensures.remaining

pub returns-in-None : goal.returns-in-None
returns-in-None g c =
    record { taken = Taken-all _ _ c.loop-taken.out c.loop-taken.taken c.loop-taken.invariant (omega arith) c.in-None.ensures.first }

pub returns : goal.returns
returns g c = record { taken = Taken-full _ _ c.loop-taken.out c.loop-taken.taken c.loop-taken.invariant (omega arith) }
