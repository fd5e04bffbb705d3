-- What holds at each exit, by how far the cursors were brought.
use Rattle.std.proofs.Common.{sym, ◌∙◌, arith}
use Rattle.fts_postings.proofs.ConjoinedLemmas.{Brought-next, BroughtUpTo-next, Brought-all, StandAt-all, IsAhead-all, IsAhead-none, IsAhead-later, Sought-seek}
use Rattle.fts_postings.proofs.conjunction.bring.Goals as goal

pub returns-in_err-next-clause-each : goal.returns-in_err-next-clause-each
returns-in_err-next-clause-each g c =
    Brought-next c.args.doc c.args.others.now c.loop-other.others c.loop-other.other-index c.loop-other.invariant _ c.seek.new.self (omega arith)
    (Sought-seek c.args.doc _ c.seek.new.self c.seek.ensures.remaining c.seek.ensures.follows c.seek.ensures.once)

pub returns-in_err-next-clause-next : goal.returns-in_err-next-clause-next
returns-in_err-next-clause-next g c =
    rw c.from_residual.ensures (IsAhead-none c.loop-other.others c.loop-other.other-index c.seek.new.self (omega arith) c.args.doc
    (sym c.in_err-next.was ∙ c.doc.ensures.first))

pub returns-then-next-doc-clause-each : goal.returns-then-next-doc-clause-each
returns-then-next-doc-clause-each g c =
    Brought-next c.args.doc c.args.others.now c.loop-other.others c.loop-other.other-index c.loop-other.invariant _ c.seek.new.self (omega arith)
    (Sought-seek c.args.doc _ c.seek.new.self c.seek.ensures.remaining c.seek.ensures.follows c.seek.ensures.once)

pub returns-then-next-doc-clause-next : goal.returns-then-next-doc-clause-next
returns-then-next-doc-clause-next g c =
    IsAhead-later c.loop-other.others c.loop-other.other-index c.seek.new.self (omega arith) c.args.doc c.in_ok-next.next _ c.seek.ensures.remaining
    c.doc.ensures.rises (sym c.in_ok-next.was ∙ c.doc.ensures.first) c.if-next-doc.true

pub loop-other-preserved : goal.loop-other-preserved
loop-other-preserved g c =
    let first = sym c.in_ok-next.was ∙ c.doc.ensures.first in
    BroughtUpTo-next c.args.doc c.args.others.now c.loop-other.others c.loop-other.other-index c.loop-other.invariant _ c.seek.new.self (omega arith)
    (Sought-seek c.args.doc _ c.seek.new.self c.seek.ensures.remaining c.seek.ensures.follows c.seek.ensures.once) (rw c.if-next-doc.false at first)

pub returns-clause-each : goal.returns-clause-each
returns-clause-each g c =
    Brought-all c.args.doc c.args.others.now c.loop-other.others c.loop-other.other-index c.loop-other.invariant (omega arith)

pub returns-clause-next : goal.returns-clause-next
returns-clause-next g c = (
  omega arith,
  λ _. IsAhead-all c.args.doc c.args.others.now c.loop-other.others c.loop-other.other-index c.loop-other.invariant (omega arith),
  λ d high low. absurd (omega (arith, high, low)),
)

pub returns-clause-stand : goal.returns-clause-stand
returns-clause-stand g c = λ _. StandAt-all c.args.doc c.args.others.now c.loop-other.others c.loop-other.other-index c.loop-other.invariant (omega arith)
