-- The words so far are changed.
use Rattle.std.proofs.Common.{◌||◌}
use Rattle.fts_pack.proofs.ChangeLemmas.{AreChangedTo}
use Rattle.fts_sets.specs.Leaves.{leaf_has}
use Rattle.fts_sets.proofs.rows.add_words.Given as goal

abbrev pub invariant-loop-place : goal.invariant-loop-place
invariant-loop-place l = AreChangedTo (λ doc told. told || leaf_has l.leaf doc) l.index l.initial.row l.row l.place
