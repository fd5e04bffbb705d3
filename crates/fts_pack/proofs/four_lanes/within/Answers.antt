use Rattle.fts_pack.proofs.VectorLemmas.{within_lanes}
use Rattle.fts_pack.proofs.four_lanes.within.Goals as goal

pub returns : goal.returns
returns c = within_lanes c.args.shift c.args.width c.mask_of.result c.mask_of.ensures c.requires.short c.args.low c.fits-low.0
