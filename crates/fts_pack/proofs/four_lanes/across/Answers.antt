use Rattle.fts_pack.proofs.VectorLemmas.{across_lanes}
use Rattle.fts_pack.proofs.four_lanes.across.Goals as goal

pub returns : goal.returns
returns c = across_lanes c.args.shift c.args.width c.mask_of.result c.mask_of.ensures c.requires.some c.requires.short c.requires.narrow c.args.low c.fits-low.0
    c.args.high c.fits-high.0 c.fits-low.1
