use Rattle.std.proofs.Common.{◌≡◌, sym, ap, ◌∙◌, arith}
use Rattle.fts_pack.proofs.LaneLemmas.{no_width}
use Rattle.fts_pack.specs.FourLanes.{numbers_in_lanes}
use Rattle.fts_pack.proofs.four_lanes.unpack.Goals as goal

pub returns-in_default : goal.returns-in_default
returns-in_default c =
    let none : c.args.width ≡ 0 = omega arith in
    c.clear.ensures ∙ sym (no_width c.args.words.now) ∙ ap (λ w. numbers_in_lanes w c.args.words.now) (sym none)
