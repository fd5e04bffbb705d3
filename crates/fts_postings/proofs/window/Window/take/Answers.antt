-- Each turn takes a word or one document, until there is no room or nothing left.
use Rattle.std.proofs.Common.{◌∙◌, arith}
use Rattle.fts_postings.proofs.TakesLemmas.{Taken-all, Taken-full, Taken-rest, Taken-stretch, none_left}
use Rattle.fts_postings.proofs.window.Window.take.Goals as goal

pub loop-taken-preserved : goal.loop-taken-preserved
loop-taken-preserved c = record {
  front = Taken-stretch _ _ _ c.loop-taken.out _ c.loop-taken.taken c.take_next-count.result c.loop-taken.invariant.front c.take_next-count.ensures.taken;
  last = c.take_next-count.ensures.last ∙ c.loop-taken.invariant.last;
  room = c.take_next-count.ensures.taken.room;
}

pub returns-then-count-eq0-clause-taken : goal.returns-then-count-eq0-clause-taken
returns-then-count-eq0-clause-taken c =
    let stretch = c.take_next-count.ensures.taken in
    let rest = Taken-rest _ _ _ c.loop-taken.out _ c.loop-taken.taken c.take_next-count.result c.loop-taken.invariant.front stretch c.if-count-eq0.true in
    let none = none_left _ _ _ c.loop-taken.out _ c.loop-taken.taken c.take_next-count.result c.loop-taken.invariant.front stretch c.if-count-eq0.true in
    Taken-all _ _ _ c.loop-taken.taken rest c.loop-taken.invariant.room none

pub returns-clause-taken : goal.returns-clause-taken
returns-clause-taken c = Taken-full _ _ c.loop-taken.out c.loop-taken.taken c.loop-taken.invariant.front (omega arith)
