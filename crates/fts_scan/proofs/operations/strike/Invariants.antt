use Rattle.std.proofs.Common.{◌≡◌, not, filter}
use Rattle.fts_model.specs.Operations.{has}
use Rattle.fts_scan.proofs.operations.strike.Given as goal

abbrev pub invariant-loop-document : goal.invariant-loop-document
invariant-loop-document l = l.left.items ≡ filter (λ d. not (has l.schema d.value l.term)) l.yielded
