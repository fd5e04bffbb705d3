use Rattle.fts_pack.proofs.LaneLemmas.{IsLaneWritten}
use Rattle.fts_pack.proofs.four_lanes.write_lane.Given as goal

abbrev pub invariant-loop-place : goal.invariant-loop-place
invariant-loop-place l =
    IsLaneWritten l.numbers l.lane l.width l.place l.fn.out l.out l.count l.pending l.filled
