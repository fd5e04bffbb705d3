-- Those so far have changed the row.
use Rattle.std.proofs.Common.{◌&&◌, take}
use Rattle.fts_pack.specs.bits.Changes.{AreChanged}
use Rattle.fts_sets.specs.Leaves.{each_has}
use Rattle.fts_sets.proofs.rows.keep_clauses.Given as goal

abbrev pub invariant-loop-clause : goal.invariant-loop-clause
invariant-loop-clause l = AreChanged (λ doc told. told && each_has (take l.clause-index l.clauses) doc) l.index l.initial.row l.row
