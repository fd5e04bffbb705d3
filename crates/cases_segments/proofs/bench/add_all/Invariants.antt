-- What stays true in the loop of `bench::add_all`.
use Rattle.std.proofs.Common.{◌≡◌}
use Rattle.cases_segments.proofs.bench.add_all.Given as goal

abbrev pub invariant-loop-document : goal.invariant-loop-document
invariant-loop-document l = l.builder.segment.schema ≡ l.schema
