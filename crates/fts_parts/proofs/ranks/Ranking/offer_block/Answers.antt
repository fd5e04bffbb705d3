use Rattle.fts_parts.proofs.RanksLemmas.{Offers-beyond}
use Rattle.fts_parts.proofs.ranks.Ranking.offer_block.Goals as goal

pub returns-then-is_block_beyond-clause-ok : goal.returns-then-is_block_beyond-clause-ok
returns-then-is_block_beyond-clause-ok c =
    Offers-beyond c.args.self.now _ c.args.top_k.now c.args.docs.now (c.is_block_beyond.ensures c.if-is_block_beyond.true) c.requires.block
