-- The document where it is is the first.
use Rattle.std.proofs.Common.{sym, ap, subst, ◌∙◌, arith}
use Rattle.std.specs.List.{slice_get}
use Rattle.std.specs.List.Sorted.{IsStrictlyIncreasing}
use Rattle.fts_postings.specs.Remaining.{at_least}
use Rattle.fts_postings.proofs.RemainingLemmas.{increasing-from_Rises}
use Rattle.fts_sets.proofs.SetLemmas.{Rises-from, first_from, nothing_left}
use Rattle.fts_sets.proofs.set_cursor.SetCursorDocSet.doc.Goals as goal

pub returns-then-self-lt-END-clause-first : goal.returns-then-self-lt-END-clause-first
returns-then-self-lt-END-clause-first c =
    let s = c.self.inside in
    first_from s.set s.at c.self.invariant.rises (c.self.invariant.stands c.if-self-lt-END.true) ∙ ap (λ xs. slice_get xs 0) c.self.view_is

pub returns-then-self-lt-END-clause-rises : goal.returns-then-self-lt-END-clause-rises
returns-then-self-lt-END-clause-rises c =
    let s = c.self.inside in
    subst IsStrictlyIncreasing c.self.view_is (increasing-from_Rises 0 (at_least s.at s.set) (Rises-from s.at s.set c.self.invariant.rises))

pub returns-else-self-lt-END-clause-first : goal.returns-else-self-lt-END-clause-first
returns-else-self-lt-END-clause-first c =
    let s = c.self.inside in
    ap (λ xs. slice_get xs 0) (sym (nothing_left s.set s.at c.self.invariant.rises (λ d far. c.self.invariant.few d (omega (arith, far, c.if-self-lt-END.false))))
    ∙ c.self.view_is)

pub returns-else-self-lt-END-clause-rises : goal.returns-else-self-lt-END-clause-rises
returns-else-self-lt-END-clause-rises c =
    let s = c.self.inside in
    subst IsStrictlyIncreasing c.self.view_is (increasing-from_Rises 0 (at_least s.at s.set) (Rises-from s.at s.set c.self.invariant.rises))
