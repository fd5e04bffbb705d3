use Rattle.std.proofs.Common.{◌≡◌, ◌*◌, ◌++◌, ◌∙◌, take, ap, arith}
use Rattle.fts_pack.specs.bits.Digits.{words_of}
use Rattle.fts_pack.specs.FourLanes.{lane_of, words_in_lanes}
use Rattle.fts_pack.proofs.LaneLemmas.{lanes_kept, lanes_whole}
use Rattle.fts_pack.proofs.four_lanes.append.Goals as goal

pub loop-lane-preserved : goal.loop-lane-preserved
loop-lane-preserved c = (
  lanes_kept c.args.width c.loop-lane.lane c.loop-lane.lanes c.write_lane.new.out (λ k. words_of 32 c.args.width (lane_of 32 k c.args.numbers.now))
      (omega arith) c.loop-lane.invariant.0 c.write_lane.ensures.others c.write_lane.ensures.words,
  c.write_lane.array_long,
)

pub returns-clause-ok : goal.returns-clause-ok
returns-clause-ok c =
    let whole : take (4 * c.args.width) c.loop-lane.lanes ≡ words_in_lanes c.args.width c.args.numbers.now =
    lanes_whole c.args.width c.args.numbers.now c.loop-lane.lanes c.loop-lane.lane c.loop-lane.invariant.1 c.requires.narrow c.loop-lane-test.false
    c.loop-lane.invariant.0 in
    c.in_ok-extend_from_slice.ensures.items ∙ ap (λ xs. c.args.words.now.items ++ xs) whole
