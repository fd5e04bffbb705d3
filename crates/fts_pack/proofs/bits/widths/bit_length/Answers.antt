use Rattle.fts_pack.proofs.PackingLemmas.{width_holds, width_least}
use Rattle.fts_pack.proofs.bits.widths.bit_length.Goals as goal

pub returns-clause-holds : goal.returns-clause-holds
returns-clause-holds c = width_holds 64 c.args.number c.ranges.number.fits

pub returns-clause-least : goal.returns-clause-least
returns-clause-least c =
    λ width small. width_least 64 c.args.number width c.ranges.number.fits small
