use Rattle.std.proofs.Common.{◌≤◌, subst, sym}
use Rattle.fts_parts.proofs.RanksLemmas.{block_beyond, block_without}
use Rattle.fts_parts.proofs.ranks.Ranking.is_block_beyond.Goals as goal

pub returns-in-None : goal.returns-in-None
returns-in-None c = λ yes. block_without c.args.self.now c.args.block c.args.top_k.now c.in-None.ensures

pub returns-in-Some : goal.returns-in-Some
returns-in-Some c = λ yes.
    block_beyond c.args.self.now c.args.block c.args.top_k.now c.in-Some.range c.in-Some.ensures
    (λ key low. c.is_beyond.ensures yes key (subst (λ n. n ≤ key.rank) (sym c.best_rank.ensures) low))
