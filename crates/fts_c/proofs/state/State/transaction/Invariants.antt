use Rattle.std.proofs.Common.{length}
use Rattle.fts_c.proofs.TransactionLemmas.{Reached}
use Rattle.fts_c.proofs.state.State.transaction.Given as goal

-- this many lines were taken
abbrev pub invariant-loop-rest : goal.invariant-loop-rest
invariant-loop-rest l = Reached l.fn.self l.block l.rest l.begun l.self l.done

abbrev pub decreases-loop-rest : goal.decreases-loop-rest
decreases-loop-rest l = length l.rest
