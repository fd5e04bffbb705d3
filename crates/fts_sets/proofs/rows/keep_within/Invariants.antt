-- The words so far are changed.
use Rattle.std.proofs.Common.{◌&&◌}
use Rattle.fts_pack.proofs.ChangeLemmas.{AreChangedTo}
use Rattle.fts_sets.specs.Leaves.{has_within}
use Rattle.fts_sets.proofs.rows.keep_within.Given as goal

abbrev pub invariant-loop-place : goal.invariant-loop-place
invariant-loop-place l = AreChangedTo (λ doc told. told && has_within l.low l.high l.column doc) l.index l.initial.row l.row l.place
