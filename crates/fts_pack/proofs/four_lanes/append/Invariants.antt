use Rattle.std.proofs.Common.{◌≡◌, ℕ, ◌<◌, length}
use Rattle.fts_pack.specs.bits.Digits.{words_of}
use Rattle.fts_pack.specs.FourLanes.{lane_of}
use Rattle.fts_pack.proofs.four_lanes.append.Given as goal

abbrev pub invariant-loop-lane : goal.invariant-loop-lane
invariant-loop-lane l =
    ((k : ℕ) → k < l.lane → lane_of l.width k l.lanes ≡ words_of 32 l.width (lane_of 32 k l.numbers)) × (length l.lanes ≡ 128)
