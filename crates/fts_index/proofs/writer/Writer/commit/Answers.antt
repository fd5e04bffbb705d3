use Rattle.std.proofs.Common.{◌<◌, ◌+◌, All, length, subst, sym, ap, ◌∙◌, arith}
use Rattle.fts_index.specs.Publications.{FrontValue}
use Rattle.fts_index.specs.Writers.{WriterValue}
use Rattle.fts_model.specs.declared.operation.Stamped.{Stamped}
use Rattle.fts_model.specs.Documents.{DocumentValue}
use Rattle.fts_snapshots.specs.Snapshots.{SnapshotValue, IsBehind, after_commit, commit_fault, content_of}
use Rattle.fts_snapshots.specs.Successors.{Follows}
use Rattle.fts_snapshots.proofs.FollowLemmas.{follows_commit}
use Rattle.fts_snapshots.proofs.SourceLemmas.{unless_ok}
use Rattle.fts_snapshots.proofs.StampLemmas.{batch_behind, left_stamped}
use Rattle.fts_index.proofs.WriterLemmas.{first_behind}
use Rattle.fts_index.proofs.writer.Writer.commit.Goals as goal

pub commit-requires-clause-behind : goal.commit-requires-clause-behind
commit-requires-clause-behind g c = λ κs _.
    let w = c.self.inside in
    let first = first_behind w.publisher.stamp w.rounds w.round c.args.batch.now c.self.invariant.round (sym c.is_of.ensures ∙ c.if-not-is_of.false) in
    subst (λ (s : SnapshotValue). IsBehind (content_of s) c.ops-2.result.now) (sym c.snapshot-snapshot.ensures.snapshot)
    (batch_behind (content_of w.publisher.snapshot) c.ops-2.result.now w.publisher.stamp c.args.batch.now.first c.snapshot-snapshot.ensures.front.stamped.below
    (omega (arith, first)) c.ops-2.ensures.numbered)

pub publish-requires-clause-stamped : goal.publish-requires-clause-stamped
publish-requires-clause-stamped g c =
    let w = c.self.inside in
    let first = first_behind w.publisher.stamp w.rounds w.round c.args.batch.now c.self.invariant.round (sym c.is_of.ensures ∙ c.if-not-is_of.false) in
    let before = c.snapshot-snapshot.result.now in
    let ops = c.ops-2.result.now in
    let below = subst (λ (s : SnapshotValue). All (λ (d : Stamped DocumentValue). d.stamp < w.publisher.stamp) (content_of s))
    (sym c.snapshot-snapshot.ensures.snapshot) c.snapshot-snapshot.ensures.front.stamped.below in
    left_stamped c.in_ok-next.next before.schema (content_of before) ops w.publisher.stamp c.args.batch.now.first c.end-stamp.result
    c.in_ok-next.ensures.content c.schema.ensures.snapshot.stamps below (omega (arith, first)) c.ops-2.ensures.numbered
    (c.end-stamp.ensures.end ∙ ap (λ os. c.args.batch.now.first + length os) (sym c.ops-2.ensures.ops))
    (omega (arith, c.end-stamp.ensures.end, c.end-stamp.ensures.small))

pub returns-clause-follows : goal.returns-clause-follows
returns-clause-follows g c =
    let old = c.args.self.now.front.snapshot in
    let s = c.snapshot-snapshot.result.now in
    let ops = c.ops-2.result.now in
    let same = c.snapshot-snapshot.ensures.snapshot ∙ ap (λ (w : WriterValue). w.front.snapshot) c.self.view_is in
    let next = (unless_ok (commit_fault c.args.cut ops s) (after_commit c.args.cut ops s) c.in_ok-next.next c.in_ok-next.ensures.snapshot).1 in
    subst (Follows old) (sym (ap (λ (f : FrontValue). f.snapshot) c.in_ok-seen.ensures.new ∙ next ∙ ap (after_commit c.args.cut ops) same))
    (follows_commit old c.args.cut ops)
