-- What is left follows what was there.
use Rattle.dilforec.specs.Successors.{Follows}
use Rattle.tests_merges.proofs.background.log.Given as goal

abbrev pub invariant-loop-line : goal.invariant-loop-line
invariant-loop-line g l = Follows l.fn.writer.front.snapshot l.writer.front.snapshot
