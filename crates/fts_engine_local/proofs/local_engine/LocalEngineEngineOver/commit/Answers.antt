-- What is left of the proof of `commit` of an engine of one thread.
use Rattle.std.proofs.Common.{◌≡◌, ◌+◌, length, ap, subst, sym, arith}
use Rattle.std.specs.Arc.{arc_value}
use Rattle.std.specs.Option.{option_map}
use Rattle.fts_snapshots.specs.Changes.{Commits}
use Rattle.fts_snapshots.specs.Successors.{Follows}
use Rattle.fts_snapshots.specs.declared.commit_point.CommitPoint.{CommitPoint}
use Rattle.fts_engine_local.specs.LocalIndexes.{IsLocalEngine}
use Rattle.fts_engine_local.specs.declared.begun_merge.MergeSlot.{MergeSlot}
use Rattle.fts_engine_local.proofs.LocalLemmas.{local_committed}
use Rattle.fts_engine_local.proofs.local_engine.LocalEngineEngineOver.commit.Goals as goal

pub invariant_of-self-2 : goal.invariant_of-self-2
invariant_of-self-2 g c =
    let e = c.self.inside in
    let begun = option_map (λ place. (arc_value {X = MergeSlot} place).made) e.begun in
    let old = arc_value e.commit in
    let mid = arc_value c.in_ok-commit.commit in
    let new = arc_value c.merge_planned-merged.new.index in
    let made = c.in_ok-commit.ensures in
    let last : c.deref.result.now ≡ old = grind (arith, c.deref.ensures) in
    let ops = c.deref-2.ensures.value in
    subst (λ os. IsLocalEngine new os e.cut (e.calls + 1) begun) (sym c.let_go.ensures)
    (local_committed old mid new e.uncommitted.items e.cut e.calls begun c.self.invariant
    (subst (λ (l : CommitPoint). Commits e.uncommitted.items l.snapshot mid.snapshot) last
    (subst (λ os. Commits os c.deref.result.now.snapshot mid.snapshot) ops made.commits))
    (omega (arith, made.stamp, ap (λ (l : CommitPoint). l.stamp) last, ap length ops))
    (subst (λ (l : CommitPoint). Follows l.snapshot mid.snapshot) last made.follows) c.merge_planned-merged.ensures.merges c.merge_planned-merged.ensures.keeps)
