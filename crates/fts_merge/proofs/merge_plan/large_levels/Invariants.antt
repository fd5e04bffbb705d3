use Rattle.std.proofs.Common.{◌≡◌, ◌<◌, ◌≤◌, ◌++◌, map, drop, slice_range}
use Rattle.fts_model.specs.Limits.{most_merged}
use Rattle.fts_merge.specs.Levels.{levels_behind, levels_of, large_enough}
use Rattle.fts_merge.proofs.merge_plan.large_levels.Given as goal

abbrev pub invariant-loop-place : goal.invariant-loop-place
invariant-loop-place l = record {
  begun : l.start < l.place;
  first : l.first ≤ most_merged;
  found : map (λ c. c.items) l.levels.items ++ large_enough l.members (levels_behind l.first (slice_range l.counted l.start l.place) (drop l.place l.counted))
      ≡ large_enough l.members (levels_of l.counted);
}
