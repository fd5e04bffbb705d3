-- The merged segments fit, step by step.
use Rattle.cases_index.specs.Late.{AllFit}
use Rattle.cases_index.proofs.walk.walked.Given as goal

abbrev pub invariant-loop-step : goal.invariant-loop-step
invariant-loop-step g l = AllFit l.writer.front.snapshot l.late.items
