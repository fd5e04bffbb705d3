use Rattle.std.proofs.Common.{◌≡◌, ◌++◌, map, take, drop}
use Rattle.fts_segment.specs.TermLogs.{by_ordinal}
use Rattle.fts_segment.proofs.term_log.put_in_order.Given as goal

abbrev pub invariant-loop-occurrence : goal.invariant-loop-occurrence
invariant-loop-occurrence l = l.log ≡ map (by_ordinal l.ordinals) (take l.occurrence-index l.fn.log) ++ drop l.occurrence-index l.fn.log
