use Rattle.std.proofs.Common.{◌≡◌, map, take}
use Rattle.fts_merge.proofs.merge_plan.live_sizes.Given as goal

abbrev pub invariant-loop-segment : goal.invariant-loop-segment
invariant-loop-segment l = l.sizes.items ≡ map (λ s. s.live) (take l.segment-index l.segments)
