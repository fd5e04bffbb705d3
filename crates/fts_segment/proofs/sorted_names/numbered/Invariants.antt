use Rattle.std.proofs.Common.{◌≡◌, map, take}
use Rattle.std.specs.List.{enumerate_from}
use Rattle.fts_segment.proofs.TermOrderLemmas.{shown}
use Rattle.fts_segment.proofs.sorted_names.numbered.Given as goal

abbrev pub invariant-loop-number : goal.invariant-loop-number
invariant-loop-number l = map shown l.order.items ≡ take l.number (enumerate_from 0 l.names)
