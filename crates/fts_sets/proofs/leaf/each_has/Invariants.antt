-- Those that are left decide.
use Rattle.std.proofs.Common.{◌≡◌, drop}
use Rattle.fts_sets.specs.Leaves.{each_has}
use Rattle.fts_sets.proofs.leaf.each_has.Given as goal

abbrev pub invariant-loop-clause : goal.invariant-loop-clause
invariant-loop-clause l = each_has (drop l.clause-index l.clauses) l.doc ≡ each_has l.clauses l.doc
