-- A range goes over its column, or finds nothing.
use Rattle.std.proofs.Common.{sym, ◌∙◌}
use Rattle.std.proofs.lemmas.Result.{IfOk-weaker}
use Rattle.fts_cursor.proofs.range.of_range.Goals as goal

pub returns-in-None-clause-remaining : goal.returns-in-None-clause-remaining
returns-in-None-clause-remaining c = c.nothing.ensures.remaining ∙ sym (rw c.in-None.is at c.bounds_of.ensures)

pub returns-in-Some-clause-remaining : goal.returns-in-Some-clause-remaining
returns-in-Some-clause-remaining c = IfOk-weaker c.of_bounds.result _ _ (λ t is. is ∙ rw c.in-Some.is at c.bounds_of.ensures) c.of_bounds.ensures.remaining
