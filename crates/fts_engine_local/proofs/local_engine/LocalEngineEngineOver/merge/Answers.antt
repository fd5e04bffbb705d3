-- What is left of the proof of `merge` of an engine of one thread.
use Rattle.std.proofs.Common.{subst}
use Rattle.std.specs.Arc.{arc_value}
use Rattle.std.specs.Option.{option_map}
use Rattle.fts_snapshots.specs.Changes.{Merges}
use Rattle.fts_snapshots.specs.declared.commit_point.CommitPoint.{CommitPoint}
use Rattle.fts_snapshots.specs.LaterCommits.{IsLaterCommit}
use Rattle.fts_engine_local.specs.declared.begun_merge.MergeSlot.{MergeSlot}
use Rattle.fts_engine_local.proofs.LocalLemmas.{local_merged}
use Rattle.fts_engine_local.proofs.local_engine.LocalEngineEngineOver.merge.Goals as goal

pub invariant_of-self-2 : goal.invariant_of-self-2
invariant_of-self-2 g c =
    let e = c.self.inside in
    let begun = option_map (λ place. (arc_value {X = MergeSlot} place).made) e.begun in
    let new = arc_value c.merge_all.new.index in
    let same = c.in_ok-commit.ensures in
    local_merged (arc_value e.commit) new e.uncommitted.items e.cut e.calls begun c.self.invariant
    (subst (λ (l : CommitPoint). Merges 1 l.snapshot new.snapshot) same c.in_ok-live.ensures.merges)
    (subst (λ (l : CommitPoint). IsLaterCommit l new) same c.in_ok-live.ensures.keeps)
