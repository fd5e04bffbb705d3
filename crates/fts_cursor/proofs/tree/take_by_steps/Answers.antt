-- Each turn takes the first document that is left.
use Rattle.std.proofs.Common.{sym, subst, ◌∙◌, arith}
use Rattle.fts_cursor.specs.Trees.{StandsAt}
use Rattle.fts_postings.proofs.TakesLemmas.{Taken-all, Taken-full, Taken-more}
use Rattle.fts_cursor.proofs.TreeLemmas.{Walked-trans}
use Rattle.fts_cursor.proofs.tree.take_by_steps.Goals as goal

pub loop-taken-preserved : goal.loop-taken-preserved
loop-taken-preserved c = record {
  front = Taken-more _ _ c.loop-taken.out _ c.loop-taken.taken c.in-Some.first c.loop-taken.invariant.front
      (sym c.in-Some.is ∙ c.loop-taken.invariant.stands.first) (omega arith) c.step-next.ensures.now.is;
  stands = c.step-next.ensures.now.stands;
  walked = Walked-trans _ _ _ c.loop-taken.invariant.walked c.step-next.ensures.walked;
}

pub returns-in_default-clause-taken : goal.returns-in_default-clause-taken
returns-in_default-clause-taken c =
    Taken-all _ _ c.loop-taken.out c.loop-taken.taken c.loop-taken.invariant.front (omega arith) (sym c.in_default.is ∙ c.loop-taken.invariant.stands.first)

pub returns-in_default-clause-stands : goal.returns-in_default-clause-stands
returns-in_default-clause-stands c = subst (λ doc. StandsAt doc c.loop-taken.node) c.in_default.is c.loop-taken.invariant.stands

pub returns-clause-taken : goal.returns-clause-taken
returns-clause-taken c = Taken-full _ _ c.loop-taken.out c.loop-taken.taken c.loop-taken.invariant.front (omega arith)
