use Rattle.std.proofs.Common.{◌≡◌, ◌++◌, drop, map}
use Rattle.fts_merge.specs.Levels.{alone}
use Rattle.fts_merge.proofs.AloneLemmas.{alone_from}
use Rattle.fts_merge.proofs.merge_plan.alone.Given as goal

abbrev pub invariant-loop-index : goal.invariant-loop-index
invariant-loop-index l =
    map (λ c. c.items) l.alone.items ++ alone_from l.percent (map (λ c. c.items) l.found) l.index (drop l.index l.segments)
    ≡ alone l.percent (map (λ c. c.items) l.found) l.segments
