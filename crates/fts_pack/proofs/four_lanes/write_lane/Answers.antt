use Rattle.std.proofs.Common.{arith, ◌∙◌, refl}
use Rattle.fts_pack.proofs.LaneLemmas.{lane_end, lane_full, lane_room, lane_short, lane_start}
use Rattle.fts_pack.proofs.four_lanes.write_lane.Goals as goal
use Rattle.fts_pack.proofs.four_lanes.write_lane.Goals.{then-filled-ge32, else-filled-ge32}

pub loop-place-init : goal.loop-place-init
loop-place-init c = lane_start c.args.numbers.now c.args.lane c.args.width c.args.out.now c.told-out

pub bounds-out-count : goal.bounds-out-count
bounds-out-count c =
    let room = lane_room c.args.numbers.now c.args.lane c.args.width c.loop-place.place c.args.out.now c.loop-place.out c.loop-place.count c.loop-place.pending
    c.loop-place.filled c.loop-place.invariant (omega arith) c.requires.narrow in
    omega (arith, room, c.requires.one_of_four)

pub loop-place-preserved : goal.loop-place-preserved
loop-place-preserved c =
    let l = c.loop-place in
    elim c.if-filled-ge32.branch [
      | then-filled-ge32 w ↦ (rw (w.out-is, w.count-is) (lane_full c.args.numbers.now c.args.lane c.args.width l.place c.args.out.now l.out l.count l.pending
          l.filled _ _ _ _ _ l.invariant (omega arith) c.requires.narrow c.requires.fits c.requires.one_of_four (c.from.ensures ∙ c.number_at.ensures) refl refl
          w.pending-is w.filled-is w.if-filled-ge32.true))
      | else-filled-ge32 w ↦ (rw (w.out-is, w.count-is) (lane_short c.args.numbers.now c.args.lane c.args.width l.place c.args.out.now l.out l.count l.pending
          l.filled _ _ _ l.invariant (omega arith) c.requires.narrow c.requires.fits (c.from.ensures ∙ c.number_at.ensures) w.pending-is w.filled-is
          w.if-filled-ge32.false))
    ]

pub returns-clause-words : goal.returns-clause-words
returns-clause-words c =
    lane_end c.args.numbers.now c.args.lane c.args.width c.loop-place.place c.args.out.now c.loop-place.out c.loop-place.count c.loop-place.pending
    c.loop-place.filled c.loop-place.invariant (omega arith)
