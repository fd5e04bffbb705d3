-- What is left of the proof of `submit` of an engine of one thread.
use Rattle.std.proofs.Common.{◌≡◌, ◌+◌, true, length, ap, subst, sym, arith}
use Rattle.std.specs.Arc.{arc_value}
use Rattle.std.specs.Option.{option_map}
use Rattle.fts_model.specs.Operations.{op_fits}
use Rattle.fts_snapshots.specs.declared.commit_point.CommitPoint.{CommitPoint}
use Rattle.fts_engine_local.specs.declared.begun_merge.MergeSlot.{MergeSlot}
use Rattle.fts_engine_local.specs.LocalIndexes.{IsLocalEngine}
use Rattle.fts_engine_local.proofs.LocalLemmas.{local_submitted}
use Rattle.fts_engine_local.proofs.local_engine.LocalEngineEngine.submit.Goals as goal

pub invariant_of-self-2 : goal.invariant_of-self-2
invariant_of-self-2 c =
    let e = c.self.inside in
    let commit = arc_value e.commit in
    let begun = option_map (λ place. (arc_value {X = MergeSlot} place).made) e.begun in
    let fits = subst (λ v. op_fits v.index.schema c.args.op ≡ true) (sym c.self.view_is) c.requires.fits in
    let last : c.deref.result.now ≡ commit = grind (arith, c.deref.ensures) in
    let next : c.deref.result.now.stamp + c.len-2.result + 1 ≡ commit.stamp + length e.uncommitted.items + 1 =
    omega (arith, ap (λ (l : CommitPoint). l.stamp) last, c.len-2.ensures) in
    subst (λ ops. IsLocalEngine commit ops e.cut (e.calls + 1) begun) (sym c.in_ok-push.ensures.items)
    (local_submitted commit e.uncommitted.items e.cut e.calls begun (c.deref.result.now.stamp + c.len-2.result + 1) c.args.op c.self.invariant next fits)
