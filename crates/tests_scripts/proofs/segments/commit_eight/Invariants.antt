-- Each add counts as one call at most.
use Rattle.std.proofs.Common.{◌≤◌}
use Rattle.tests_scripts.proofs.segments.commit_eight.Given as goal

abbrev pub invariant-loop : goal.invariant-loop
invariant-loop g l = g.E.Engine.changes l.engine ≤ l.counter
