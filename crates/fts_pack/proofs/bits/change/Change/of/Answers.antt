-- The bits of a joined word.
use Rattle.std.proofs.Common.{◌≡◌, ◌==◌, ◌-◌, ◌&&◌, ◌∙◌, ap, sym}
use Rattle.std.specs.Int.{bit_at}
use Rattle.fts_pack.specs.bits.Changes.{changed}
use Rattle.fts_pack.proofs.ChangeLemmas.{bit_of_and, bit_of_not, bit_of_or}
use Rattle.fts_pack.proofs.bits.change.Change.of.Goals as goal

pub returns-in-And : goal.returns-in-And
returns-in-And c j low =
    bit_of_and c.args.told c.args.bits j
    ∙ ap (λ how. changed how (bit_at c.args.told j == 1) (bit_at c.args.bits j == 1)) (sym c.in-And.is)

pub returns-in-Or : goal.returns-in-Or
returns-in-Or c j low =
    bit_of_or c.args.told c.args.bits j
    ∙ ap (λ how. changed how (bit_at c.args.told j == 1) (bit_at c.args.bits j == 1)) (sym c.in-Or.is)

pub returns-in-AndNot : goal.returns-in-AndNot
returns-in-AndNot c j low =
    bit_of_and c.args.told (18446744073709551615 - c.args.bits) j
    ∙ ap (λ b. (bit_at c.args.told j == 1) && b) (bit_of_not c.args.bits j c.ranges.bits.fits low)
    ∙ ap (λ how. changed how (bit_at c.args.told j == 1) (bit_at c.args.bits j == 1)) (sym c.in-AndNot.is)
