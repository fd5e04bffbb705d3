-- The place that has a mark is the first.
use Rattle.std.proofs.Common.{ap, refl, sym, ◌∙◌}
use Rattle.std.specs.List.{slice_get}
use Rattle.fts_postings.proofs.WindowLemmas.{found-first}
use Rattle.fts_postings.proofs.window.Window.first.Goals as goal

pub returns-then-self-clause-first : goal.returns-then-self-clause-first
returns-then-self-clause-first c =
    let w = c.pass_word.new.self in
    let is = found-first w.base w.from w.last w.words c.if-self.true (c.pass_word.ensures.marked c.if-pass_word.true) in
    sym (ap (λ xs. slice_get xs 0) (sym (c.pass_word.ensures.same ∙ c.loop-self.invariant.same) ∙ is))

pub returns-then-self-clause-stands : goal.returns-then-self-clause-stands
returns-then-self-clause-stands c =
    let w = c.pass_word.new.self in
    (refl, found-first w.base w.from w.last w.words c.if-self.true (c.pass_word.ensures.marked c.if-pass_word.true))
