use Rattle.std.proofs.Common.{ap}
use Rattle.fts_postings.proofs.PostingLemmas.{remaining_rises}
use Rattle.fts_postings.proofs.posting.PostingCursorDocSet.doc.Goals as goal

pub returns-then-self-clause-rises : goal.returns-then-self-clause-rises
returns-then-self-clause-rises g c = remaining_rises c.args.self.now _ (ap (λ p. p.blocks) c.self.view_is) (g.met.B.Blocks.rises c.self.inside.source)

pub returns-else-self-clause-rises : goal.returns-else-self-clause-rises
returns-else-self-clause-rises g c = remaining_rises c.args.self.now _ (ap (λ p. p.blocks) c.self.view_is) (g.met.B.Blocks.rises c.self.inside.source)
