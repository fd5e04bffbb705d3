-- One document more is looked at.
use Rattle.std.proofs.Common.{◌+◌, get_or, refl, ap, arith}
use Rattle.std.specs.Bool.{beq}
use Rattle.fts_sets.proofs.KeptLemmas.{keeps_more}
use Rattle.fts_sets.specs.Leaves.{leaf_has}
use Rattle.fts_sets.proofs.retain.keep_tested.Goals as goal

pub loop-index-preserved : goal.loop-index-preserved
loop-index-preserved c =
    let l = c.loop-index in
    let passing = c.args.passing in
    keeps_more (λ d. beq (leaf_has c.args.leaf.now d) passing) c.args.docs.now l.docs l.kept l.index (get_or l.docs l.index 0) _ (beq c.has.result passing)
    l.invariant (omega arith) refl (ap (λ b. beq b passing) c.has.ensures) (ap (λ n. l.kept + n) c.from-kept.ensures)
