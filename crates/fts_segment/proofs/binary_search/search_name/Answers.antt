use Rattle.std.proofs.Common.{sym, ◌∙◌, arith}
use Rattle.fts_segment.proofs.FindLemmas.{Narrows-less, Narrows-greater, Narrows-none, Narrows-found, Narrows-before, Narrows-up_to}
use Rattle.fts_segment.proofs.binary_search.search_name.Goals as goal

pub loop-low-preserved-in-Less : goal.loop-low-preserved-in-Less
loop-low-preserved-in-Less c =
    Narrows-less _ c.requires c.loop-low.invariant (omega arith) (omega arith) (sym (rw c.new-wanted.ensures at c.compare.ensures) ∙ c.in-Less.is)

pub loop-low-preserved : goal.loop-low-preserved
loop-low-preserved c =
    Narrows-greater _ c.requires c.loop-low.invariant (omega arith) (omega arith) (sym (rw c.new-wanted.ensures at c.compare.ensures) ∙ c.in-Greater.is)

pub returns-in-Equal-clause-found : goal.returns-in-Equal-clause-found
returns-in-Equal-clause-found c =
    Narrows-found c.args.names.now c.args.name.now _ (omega (arith, c.loop-low.invariant.within))
    (sym (rw c.new-wanted.ensures at c.compare.ensures) ∙ c.in-Equal.is)

pub returns-clause-absent : goal.returns-clause-absent
returns-clause-absent c = Narrows-none c.loop-low.invariant c.loop-low-test.false

pub returns-clause-before : goal.returns-clause-before
returns-clause-before c = sym (Narrows-before c.loop-low.invariant c.loop-low-test.false)

pub returns-clause-up_to : goal.returns-clause-up_to
returns-clause-up_to c = sym (Narrows-up_to c.loop-low.invariant c.loop-low-test.false)
