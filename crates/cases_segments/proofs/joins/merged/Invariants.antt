-- What stays true in the loop of `joins::merged`.
use Rattle.std.proofs.Common.{◌≡◌, All}
use Rattle.cases_segments.proofs.joins.merged.Given as goal

abbrev pub invariant-loop-index : goal.invariant-loop-index
invariant-loop-index l = All (λ source. source.segment.schema ≡ l.schema) l.sources.items
