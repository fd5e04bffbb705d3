-- What is left of the proof of `keep_first` of an engine of one thread.
use Rattle.std.proofs.Common.{subst, sym}
use Rattle.std.specs.Arc.{arc_value}
use Rattle.std.specs.Option.{option_map}
use Rattle.fts_engine_local.specs.declared.begun_merge.MergeSlot.{MergeSlot}
use Rattle.fts_engine_local.specs.LocalIndexes.{IsLocalEngine}
use Rattle.fts_engine_local.proofs.LocalLemmas.{local_taken_back}
use Rattle.fts_engine_local.proofs.local_engine.LocalEngineTakeBack.keep_first.Goals as goal

pub invariant_of-self : goal.invariant_of-self
invariant_of-self c =
    let e = c.self.inside in
    let commit = arc_value e.commit in
    let begun = option_map (λ place. (arc_value {X = MergeSlot} place).made) e.begun in
    subst (λ ops. IsLocalEngine commit ops e.cut e.calls begun) (sym c.truncate.ensures.items)
    (local_taken_back commit e.uncommitted.items e.cut e.calls begun c.args.count c.self.invariant)
