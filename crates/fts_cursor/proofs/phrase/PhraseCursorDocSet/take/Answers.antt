-- Each turn takes the first document that is left.
use Rattle.std.proofs.Common.{sym, ◌∙◌, arith}
use Rattle.fts_postings.proofs.TakesLemmas.{Taken-all, Taken-full, Taken-more}
use Rattle.fts_cursor.proofs.TreeLemmas.{Walked-trans}
use Rattle.fts_cursor.proofs.phrase.PhraseCursorDocSet.take.Goals as goal

pub loop-taken-preserved : goal.loop-taken-preserved
loop-taken-preserved c = record {
  front = Taken-more _ _ c.loop-taken.out _ c.loop-taken.taken c.in-Some.doc c.loop-taken.invariant.front c.in-Some.ensures.first (omega arith)
      c.advance.ensures.remaining;
  walked = Walked-trans _ _ _ c.loop-taken.invariant.walked c.advance.ensures.walked;
}

pub returns-in_default-clause-taken : goal.returns-in_default-clause-taken
returns-in_default-clause-taken c =
    Taken-all _ _ c.loop-taken.out c.loop-taken.taken c.loop-taken.invariant.front (omega arith) (sym c.in_default.is ∙ c.doc.ensures.first)

pub returns-clause-taken : goal.returns-clause-taken
returns-clause-taken c = Taken-full _ _ c.loop-taken.out c.loop-taken.taken c.loop-taken.invariant.front (omega arith)
