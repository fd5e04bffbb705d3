use Rattle.fts_pack.proofs.BlocksLemmas.{block_taken}
use Rattle.fts_pack.proofs.column.block_ranges.block_at.Goals as goal

pub returns : goal.returns
returns c = block_taken c.args.values.now c.args.block c.min.result c.min.ensures
