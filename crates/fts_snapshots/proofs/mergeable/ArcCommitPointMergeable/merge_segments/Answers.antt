-- The rest of the proof of `merge_segments` of a shared commit: what a merge leaves follows what was.
use Rattle.std.proofs.Common.{◌≡◌, ◌∙◌, ap, subst, sym, arith}
use Rattle.std.specs.Arc.{arc_value}
use Rattle.fts_snapshots.specs.LateMerges.{after_merge}
use Rattle.fts_snapshots.specs.MergedSegments.{merged_of}
use Rattle.fts_snapshots.specs.Merges.{entries_at}
use Rattle.fts_snapshots.specs.Snapshots.{merge_fault}
use Rattle.fts_snapshots.specs.Successors.{Follows}
use Rattle.fts_snapshots.specs.declared.commit_point.CommitPoint.{CommitPoint}
use Rattle.fts_snapshots.proofs.FollowLemmas.{follows_end}
use Rattle.fts_snapshots.proofs.SourceLemmas.{unless_ok}
use Rattle.fts_snapshots.proofs.mergeable.ArcCommitPointMergeable.merge_segments.Goals as goal

pub returns-clause-keeps : goal.returns-clause-keeps
returns-clause-keeps g c =
    let commit = arc_value c.args.self.now in
    let ids = c.args.ids.now in
    let first : c.deref.result.now ≡ commit = grind (arith, c.deref.ensures) in
    let second : c.deref-2.result.now ≡ commit = grind (arith, c.deref-2.ensures) in
    let s = c.deref-2.result.now.snapshot in
    let made = c.in_ok-self.ensures.ok in
    let is = (unless_ok (merge_fault ids s) (after_merge ids s) c.in_ok-snapshot.snapshot c.in_ok-snapshot.ensures.snapshot).1 in
    record {
      stamp = ap (λ (l : CommitPoint). l.stamp) made ∙ ap (λ (l : CommitPoint). l.stamp) first;
      follows = subst (λ (l : CommitPoint). Follows l.snapshot (arc_value c.in_ok-self.field-0).snapshot) second
          (subst (Follows s) (sym (ap (λ (l : CommitPoint). l.snapshot) made ∙ is)) (follows_end s (merged_of (entries_at s.entries ids))));
    }
