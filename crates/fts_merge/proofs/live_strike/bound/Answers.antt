use Rattle.std.proofs.Common.{◌≡◌, ap, sym, ◌∙◌, take, max, arith}
use Rattle.fts_merge.specs.Internals.Deletes.{bound_by, bound_of}
use Rattle.fts_merge.proofs.DeletesLemmas.{bound_of-push}
use Rattle.fts_merge.proofs.live_strike.bound.Goals as goal
use Rattle.fts_model.proofs.Lists.{taken}

pub loop-op-preserved : goal.loop-op-preserved
loop-op-preserved c =
    let ops = c.args.ops.now in
    let i = c.loop-op.op-index in
    let op = c.op-item.result in
    let more = ap bound_of (taken ops i op c.loop-op-test.true c.op-item.is) ∙ bound_of-push (take i ops) op in
    let is : c.max-bound.result ≡ max (bound_by op.stamp op.value) (bound_of (take i ops)) =
    grind (arith, c.max-bound.ensures, c.bound_by.ensures, c.loop-op.invariant) in
    is ∙ sym more
