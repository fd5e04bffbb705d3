use Rattle.std.proofs.Common.{◌≡◌, map, take}
use Rattle.fts_merge.proofs.merge_plan.indexes.Given as goal

abbrev pub invariant-loop-counted : goal.invariant-loop-counted
invariant-loop-counted l = l.indexes.items ≡ map (λ c. c.index) (take l.counted-index l.level)
