use Rattle.std.proofs.Common.{◌*◌, arith}
use Rattle.fts_pack.proofs.VectorLemmas.{placed_there, placed_after}
use Rattle.fts_pack.proofs.prefix_sums.write.Goals as goal

pub returns-clause-there : goal.returns-clause-there
returns-clause-there c = placed_there (4 * c.args.row) c.args.out.now c.args.four c.told-out c.fits-four.0 (omega arith)

pub returns-clause-behind : goal.returns-clause-behind
returns-clause-behind c = placed_after (4 * c.args.row) c.args.out.now c.args.four c.told-out c.fits-four.0 (omega arith)
