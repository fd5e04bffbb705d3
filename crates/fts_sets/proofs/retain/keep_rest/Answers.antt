-- One document more is looked at.
use Rattle.std.proofs.Common.{◌+◌, get_or, refl, ap, arith}
use Rattle.fts_sets.proofs.KeptLemmas.{keeps_more}
use Rattle.fts_sets.specs.Leaves.{rest_has}
use Rattle.fts_sets.proofs.retain.keep_rest.Goals as goal

pub loop-index-preserved : goal.loop-index-preserved
loop-index-preserved c =
    let l = c.loop-index in
    keeps_more (rest_has c.args.below c.args.any.now c.args.none.now) c.args.docs.now l.docs l.kept l.index (get_or l.docs l.index 0) _ c.rest_has.result l.invariant (omega arith) refl c.rest_has.ensures (ap (λ n. l.kept + n) c.from-kept.ensures)
