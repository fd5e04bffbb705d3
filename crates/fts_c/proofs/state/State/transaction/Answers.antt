use Rattle.std.proofs.Common.{◌+◌, Ok, subst}
use Rattle.fts_c.specs.Transactions.{Operates}
use Rattle.fts_c.proofs.TransactionLemmas.{reached_next}
use Rattle.fts_c.proofs.state.State.transaction.Goals as goal

pub loop-rest-preserved : goal.loop-rest-preserved
loop-rest-preserved c =
    let line = c.first_line.result.0.now in
    let begun = c.savepoint-begun.result in
    reached_next c.args.self.now c.loop-rest.self c.operate_next.new.self c.args.block.now c.loop-rest.rest.now line
    c.first_line.result.1.now begun c.loop-rest.done c.loop-rest.invariant c.first_line.ensures.line c.first_line.ensures.shorter
    (subst (λ taken. Operates c.loop-rest.self (begun.number + 1) line c.operate_next.new.self (Ok taken)) c.in-Ok-true.field-0-test
    c.in-Ok-true.ensures)
