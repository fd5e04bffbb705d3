use Rattle.std.proofs.Common.{◌≡◌, ◌+◌, length, ap, ◌∙◌, arith}
use Rattle.fts_postings.specs.Posting.{here}
use Rattle.fts_postings.proofs.PostingLemmas.{step_within, step_over}
use Rattle.fts_postings.proofs.posting.PostingCursorDocSet.advance.Goals as goal

pub returns-then-self-2-clause-remaining : goal.returns-then-self-2-clause-remaining
returns-then-self-2-clause-remaining g c =
    rw (← c.self.view_is) (step_within _ _ c.self.inside.at (omega (arith, c.self.invariant.size)))

pub returns-else-self-2-clause-remaining : goal.returns-else-self-2-clause-remaining
returns-else-self-2-clause-remaining g c =
    let e = c.enter.ensures in
    let is = c.self.view_is in
    let at : c.self.inside.at ≡ c.args.self.now.at = ap (λ p. p.at) is in
    let size : length (here c.args.self.now) ≡ c.args.self.now.at + 1 = omega (arith, at, ap (λ p. length (here p)) is, c.self.invariant.size) in
    step_over c.args.self.now c.enter.new.self e.follows.blocks (e.place.0 ∙ ap (λ p. p.block + 1) is) e.place.1 size
