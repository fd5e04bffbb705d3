-- What is left of the proof of `next_commit::next_commit`.
use Rattle.std.proofs.Common.{◌+◌, length, ap, subst, sym, ◌∙◌, arith}
use Rattle.std.specs.Arc.{arc_value}
use Rattle.fts_snapshots.specs.Snapshots.{after_commit, commit_fault, content_of}
use Rattle.fts_snapshots.specs.Successors.{Follows}
use Rattle.fts_snapshots.proofs.CountLemmas.{memory_alone, no_commit_fault, refused_by}
use Rattle.fts_snapshots.proofs.FollowLemmas.{follows_commit}
use Rattle.fts_snapshots.proofs.SourceLemmas.{unless_ok}
use Rattle.fts_snapshots.proofs.StampLemmas.{batch_behind, left_stamped}
use Rattle.fts_snapshots.specs.declared.commit_point.CommitPoint.{CommitPoint}
use Rattle.fts_snapshots.proofs.ChangeLemmas.{commits_made}
use Rattle.fts_engine_local.proofs.next_commit.next_commit.Goals as goal

pub commit_alone-requires-clause-behind : goal.commit_alone-requires-clause-behind
commit_alone-requires-clause-behind c =
    let last = c.args.last.now in
    batch_behind (content_of last.snapshot) c.args.ops.now last.stamp (last.stamp + 1) last.stamped.below (omega arith) c.requires.numbered

pub returns-in-Err-clause-memory : goal.returns-in-Err-clause-memory
returns-in-Err-clause-memory c =
    let s = c.args.last.now.snapshot in
    let ops = c.args.ops.now in
    memory_alone (commit_fault c.args.cut ops s) c.in-Err.refusal (no_commit_fault c.args.cut ops s c.requires.numbers)
    (refused_by (commit_fault c.args.cut ops s) (after_commit c.args.cut ops s) c.in-Err.refusal c.in-Err.ensures.snapshot)

pub invariant_of-new : goal.invariant_of-new
invariant_of-new c =
    let last = c.args.last.now in
    let ops = c.args.ops.now in
    record {
      stamped = left_stamped c.in-Ok.snapshot last.snapshot.schema (content_of last.snapshot) ops last.stamp (last.stamp + 1) (last.stamp + length ops + 1)
          c.in-Ok.ensures.content c.schema-schema.ensures.snapshot.stamps last.stamped.below (omega arith) c.requires.numbered (omega arith) c.requires.stamps;
    }

pub returns-clause-commits : goal.returns-clause-commits
returns-clause-commits c =
    let last = c.args.last.now in
    let s = last.snapshot in
    let ops = c.args.ops.now in
    let made = c.in_ok-new.ensures.ok in
    let is = (unless_ok (commit_fault c.args.cut ops s) (after_commit c.args.cut ops s) c.in-Ok.snapshot c.in-Ok.ensures.snapshot).1 in
    commits_made c.args.cut ops s (arc_value c.in_ok-new.field-0).snapshot (ap (λ (l : CommitPoint). l.snapshot) made ∙ is)
    (ap (λ (l : CommitPoint). content_of l.snapshot) made ∙ c.in-Ok.ensures.content)

pub returns-clause-follows : goal.returns-clause-follows
returns-clause-follows c =
    let s = c.args.last.now.snapshot in
    let ops = c.args.ops.now in
    let made = c.in_ok-new.ensures.ok in
    let is = (unless_ok (commit_fault c.args.cut ops s) (after_commit c.args.cut ops s) c.in-Ok.snapshot c.in-Ok.ensures.snapshot).1 in
    subst (Follows s) (sym (ap (λ (l : CommitPoint). l.snapshot) made ∙ is)) (follows_commit s c.args.cut ops)
