-- A step over the end of the open block.
use Rattle.std.proofs.Common.{◌≡◌, ◌+◌, length, ap, ◌∙◌, arith}
use Rattle.fts_postings.specs.Posting.{here}
use Rattle.fts_postings.proofs.PostingLemmas.{leave_over}
use Rattle.fts_postings.proofs.posting.PostingCursor.leave.Goals as goal

pub returns-else-self-count-clause-remaining : goal.returns-else-self-count-clause-remaining
returns-else-self-count-clause-remaining g c =
    let e = c.enter.ensures in
    let is = c.self.view_is in
    let at : c.self.inside.at ≡ c.args.self.now.at = ap (λ p. p.at) is in
    let size : length (here c.args.self.now) ≡ c.args.self.now.at + c.args.count = omega (arith, at, ap (λ p. length (here p)) is, c.self.invariant.size) in
    leave_over c.args.self.now c.enter.new.self c.args.count e.follows.blocks (e.place.0 ∙ ap (λ p. p.block + 1) is) e.place.1 size
