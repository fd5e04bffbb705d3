use Rattle.std.proofs.Common.{sym, ◌∙◌, arith}
use Rattle.std.proofs.lemmas.Grind.{same_number_lists}
use Rattle.fts_pack.proofs.LaneLemmas.{length-numbers_in_lanes}
use Rattle.fts_pack.specs.FourLanes.{numbers_in_lanes}
use Rattle.fts_pack.proofs.four_lanes.unpack_at.Goals as goal

pub returns : goal.returns
returns g c =
    same_number_lists c.eight_steps-4.new.out (numbers_in_lanes g.row.W c.args.words.now)
    (c.eight_steps-4.array_long ∙ sym (length-numbers_in_lanes g.row.W c.args.words.now)) (λ k inside. c.eight_steps-4.ensures k (omega arith))
