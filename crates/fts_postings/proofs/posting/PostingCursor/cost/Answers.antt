-- A block has 128 documents at most.
use Rattle.std.proofs.Common.{arith}
use Rattle.fts_postings.specs.Posting.{Posting}
use Rattle.fts_postings.proofs.CostLemmas.{posting_cost}
use Rattle.fts_postings.proofs.posting.PostingCursor.cost.Goals as goal

pub returns : goal.returns
returns g c =
    let fields = c.self.inside in
    let p : Posting = record {
      blocks = g.B.Blocks.contents fields.source;
      block = fields.block;
      at = fields.at;
      opened = fields.opened;
      count =
          g.B.Blocks.openings fields.source;
    } in
    rw (← c.self.view_is) (omega (arith, posting_cost p (g.met.B.Blocks.sized fields.source)))
