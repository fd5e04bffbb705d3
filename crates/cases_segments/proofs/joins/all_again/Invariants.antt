-- What stays true in the loop of `joins::all_again`.
use Rattle.std.proofs.Common.{◌≡◌, All}
use Rattle.cases_segments.proofs.joins.all_again.Given as goal

abbrev pub invariant-loop-bench : goal.invariant-loop-bench
invariant-loop-bench l = All (λ made. made.schema ≡ l.schema) l.again.items
