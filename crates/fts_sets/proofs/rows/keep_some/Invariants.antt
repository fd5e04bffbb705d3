-- The words so far are changed.
use Rattle.std.proofs.Common.{◌&&◌}
use Rattle.fts_pack.proofs.ChangeLemmas.{AreChangedTo}
use Rattle.fts_sets.specs.Leaves.{one_has}
use Rattle.fts_sets.proofs.rows.keep_some.Given as goal

abbrev pub invariant-loop-place : goal.invariant-loop-place
invariant-loop-place l = AreChangedTo (λ doc told. told && one_has l.leaves doc) l.index l.initial.row l.row l.place
