use Rattle.std.proofs.Common.{map}
use Rattle.fts_segment.proofs.TermOrderLemmas.{IsSorting}
use Rattle.fts_segment.proofs.sorted_names.sort_names.Given as goal

abbrev pub invariant-loop-name : goal.invariant-loop-name
invariant-loop-name l = IsSorting l.names l.name-items l.name-index (map (λ n. n.now) l.different.items) l.ordinals.items
