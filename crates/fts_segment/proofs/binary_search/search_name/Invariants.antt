use Rattle.std.proofs.Common.{◌-◌}
use Rattle.fts_segment.proofs.FindLemmas.{Narrows}
use Rattle.fts_segment.proofs.binary_search.search_name.Given as goal

abbrev pub invariant-loop-low : goal.invariant-loop-low
invariant-loop-low l = Narrows l.names l.name l.low l.high

abbrev pub decreases-loop-low : goal.decreases-loop-low
decreases-loop-low l = l.high - l.low
