use Rattle.std.proofs.Common.{arith}
use Rattle.fts_postings.specs.Posting.{Posting}
use Rattle.fts_postings.proofs.PostingLemmas.{reached_all}
use Rattle.fts_postings.proofs.posting.PostingCursor.openings.Goals as goal

pub returns-clause-end : goal.returns-clause-end
returns-clause-end g c =
    let fields = c.self.inside in
    let p : Posting = record {
      blocks = g.B.Blocks.contents fields.source;
      block = fields.block;
      at = fields.at;
      opened = fields.opened;
      count =
          g.B.Blocks.openings fields.source;
    } in
    rw (← c.self.view_is) (reached_all p c.self.invariant.within (λ inside. omega (arith, c.self.invariant.stands inside, c.self.invariant.size)))
