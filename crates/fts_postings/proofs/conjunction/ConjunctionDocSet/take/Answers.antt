-- Each turn takes a stretch of what is left.
use Rattle.std.proofs.Common.{arith}
use Rattle.fts_postings.proofs.TakesLemmas.{Taken-all, Taken-full, Taken-none, Taken-rest, Taken-stretch, none_left}
use Rattle.fts_postings.proofs.ConjoinedLemmas.{AllFollow-same, AllFollow-trans}
use Rattle.fts_postings.proofs.conjunction.ConjunctionDocSet.take.Goals as goal

pub loop-taken-init : goal.loop-taken-init
loop-taken-init g c = record { front = Taken-none _ c.args.out.now; follows = AllFollow-same c.args.self.now; room = omega arith }

pub loop-taken-preserved : goal.loop-taken-preserved
loop-taken-preserved g c = record {
  front = Taken-stretch _ _ _ c.loop-taken.out _ c.loop-taken.taken c.take_stretch-count.result c.loop-taken.invariant.front
      c.take_stretch-count.ensures.taken;
  follows = AllFollow-trans _ _ _ c.loop-taken.invariant.follows c.take_stretch-count.ensures.follows;
  room = c.take_stretch-count.ensures.taken.room;
}

pub returns-then-count-eq0-clause-taken : goal.returns-then-count-eq0-clause-taken
returns-then-count-eq0-clause-taken g c =
    let stretch = c.take_stretch-count.ensures.taken in
    let rest = Taken-rest _ _ _ c.loop-taken.out _ c.loop-taken.taken c.take_stretch-count.result c.loop-taken.invariant.front stretch c.if-count-eq0.true in
    let none = none_left _ _ _ c.loop-taken.out _ c.loop-taken.taken c.take_stretch-count.result c.loop-taken.invariant.front stretch c.if-count-eq0.true in
    Taken-all _ _ _ c.loop-taken.taken rest c.loop-taken.invariant.room none

pub returns-then-count-eq0-clause-follows : goal.returns-then-count-eq0-clause-follows
returns-then-count-eq0-clause-follows g c = AllFollow-trans _ _ _ c.loop-taken.invariant.follows c.take_stretch-count.ensures.follows

pub returns-clause-taken : goal.returns-clause-taken
returns-clause-taken g c = Taken-full _ _ c.loop-taken.out c.loop-taken.taken c.loop-taken.invariant.front (omega arith)
