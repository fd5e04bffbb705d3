use Rattle.std.proofs.Common.{◌<◌, ◌≤◌, length, ap, subst, ◌∙◌, sym}
use Rattle.fts_postings.specs.Posting.{Posting, here, remaining_of}
use Rattle.fts_pack.specs.Documents.{last_of}
use Rattle.fts_postings.specs.Remaining.{at_least}
use Rattle.fts_postings.proofs.PostingLemmas.{Nearer, Nearer-here, Nearer-there, found_near}
use Rattle.fts_postings.proofs.posting.PostingCursorDocSet.seek.Goals as goal
use Rattle.fts_postings.proofs.posting.PostingCursorDocSet.seek.Goals.{then-self-target, else-self-target}

pub returns-clause-remaining : goal.returns-clause-remaining
returns-clause-remaining g c =
    let is = c.self.view_is in
    let fields = c.self.inside in
    let kept = c.self.invariant in
    let rises = g.met.B.Blocks.rises fields.source in
    let sized = g.met.B.Blocks.sized fields.source in
    let near : Nearer c.args.self.now c.if-self-target.self c.args.target = elim c.if-self-target.branch [
      | then-self-target w ↦
          rw (w.self-is, ← is) (Nearer-there _ _ fields.len w.block_of-block.result c.args.target fields.numbers kept c.if-self.false rises sized
          w.if-self-target.true w.block_of-block.ensures (w.enter.ensures.follows.blocks ∙ ap (λ p. p.blocks) (sym is)) w.enter.ensures.place.0
          w.enter.ensures.place.1)
      | else-self-target w ↦
          rw (w.self-is, ← is) (Nearer-here _ fields.len c.args.target fields.numbers kept c.if-self.false w.if-self-target.false)
    ] in
    let last = c.self-2.inside in
    let there = c.self-2.view_is in
    let reaches = subst (λ (p : Posting). p.block < length p.blocks → c.args.target ≤ last_of (here p)) (sym there) near.reaches in
    found_near (record {
      blocks = g.B.Blocks.contents last.source;
      block = last.block;
      at = last.at;
      opened = last.opened;
      count = g.B.Blocks.openings
          last.source;
    }) last.len c.place_of-self-inside.result c.args.target last.numbers c.self-2.invariant (g.met.B.Blocks.rises last.source) reaches
    c.place_of-self-inside.ensures
    ∙ ap (λ p. at_least c.args.target (remaining_of p)) there
    ∙ sym near.same
