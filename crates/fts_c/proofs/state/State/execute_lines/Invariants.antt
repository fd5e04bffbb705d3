use Rattle.std.proofs.Common.{length}
use Rattle.fts_c.proofs.BlockLemmas.{Reached}
use Rattle.fts_c.proofs.state.State.execute_lines.Given as goal

-- this many lines were done
abbrev pub invariant-loop-rest : goal.invariant-loop-rest
invariant-loop-rest l = Reached l.fn.self l.block l.rest l.self l.done

abbrev pub decreases-loop-rest : goal.decreases-loop-rest
decreases-loop-rest l = length l.rest
