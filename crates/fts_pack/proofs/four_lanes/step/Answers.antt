use Rattle.std.proofs.Common.{◌*◌, arith}
use Rattle.fts_pack.proofs.VectorLemmas.{placed}
use Rattle.fts_pack.specs.FourLanes.{numbers_in_lanes}
use Rattle.fts_pack.proofs.four_lanes.step.Goals as goal

pub returns : goal.returns
returns c = placed (4 * c.args.place) c.args.out.now c.at_place.result (numbers_in_lanes c.args.width c.args.words.now) c.told-out (omega arith) (omega arith)
    c.requires.before c.at_place.ensures
