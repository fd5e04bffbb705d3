use Rattle.std.proofs.Common.{◌≡◌, ◌++◌, drop}
use Rattle.fts_merge.specs.Levels.{considered}
use Rattle.fts_merge.proofs.LevelsLemmas.{considered_from}
use Rattle.fts_merge.proofs.merge_plan.considered.Given as goal

abbrev pub invariant-loop-index : goal.invariant-loop-index
invariant-loop-index l = l.counted.items ++ considered_from l.policy l.index (drop l.index l.sizes) ≡ considered l.policy l.sizes
