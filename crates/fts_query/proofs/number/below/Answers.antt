use Rattle.std.proofs.Common.{sym, arith}
use Rattle.fts_query.proofs.MeaningsLemmas.{smaller_found, smaller_beyond, smaller_none}
use Rattle.fts_query.proofs.number.below.Goals as goal

pub returns-in-None-clause-value : goal.returns-in-None-clause-value
returns-in-None-clause-value c = sym (smaller_none c.args.limit c.args.digits.now (omega arith) (sym c.in-None.ensures))

pub returns-then-value-limit-clause-value : goal.returns-then-value-limit-clause-value
returns-then-value-limit-clause-value c =
    sym (smaller_beyond c.args.limit c.args.digits.now (omega arith) c.in-Some.value (sym c.in-Some.ensures) c.if-value-limit.true)

pub returns-else-value-limit-clause-value : goal.returns-else-value-limit-clause-value
returns-else-value-limit-clause-value c =
    sym (smaller_found c.args.limit c.args.digits.now (omega arith) c.in-Some.value (sym c.in-Some.ensures) c.if-value-limit.false)
