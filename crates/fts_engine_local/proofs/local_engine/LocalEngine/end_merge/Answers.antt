-- What is left of the proof of `end_merge` of an engine of one thread.
use Rattle.std.proofs.Common.{◌≡◌, ◌∙◌, ◌+◌, None, Some, IfSome, inl, inr, refl, ap, subst, sym, arith}
use Rattle.std.specs.Arc.{arc_value}
use Rattle.std.specs.Option.{option_map}
use Rattle.fts_snapshots.specs.LateMerges.{after_end, end_fault, gone_fault}
use Rattle.fts_snapshots.specs.MergedSegments.{merged_of}
use Rattle.fts_snapshots.specs.Snapshots.{SnapshotValue, content_of}
use Rattle.fts_snapshots.specs.declared.commit_point.CommitPoint.{CommitPoint}
use Rattle.fts_engine_local.specs.EndedMerges.{HasEnded, HasFailed}
use Rattle.fts_engine_local.specs.LocalIndexes.{LocalValue}
use Rattle.fts_engine_local.specs.declared.begun_merge.MergeSlot.{MergeSlot}
use Rattle.fts_engine_local.specs.contracts.local_engine.LocalEngine.{the_view}
use Rattle.fts_engine_local.proofs.LocalLemmas.{gone_of, index_ended, local_ended}
use Rattle.fts_engine_local.proofs.local_engine.LocalEngine.end_merge.Goals as goal

pub invariant_of-self-in-Ok-Some : goal.invariant_of-self-in-Ok-Some
invariant_of-self-in-Ok-Some c =
    let e = c.self.inside in
    let commit = arc_value e.commit in
    let m = merged_of c.deref.result.now.made in
    let begun = option_map (λ place. (arc_value {X = MergeSlot} place).made) e.begun in
    let last : c.deref-2.result.now ≡ commit = grind (arith, c.deref-2.ensures) in
    let found : c.in-Ok-Some.field-0 ≡ Some c.in-Ok-Some.commit = grind (arith, c.in-Ok-Some.field-0-is, c.in-Ok-Some.commit-is, c.in-Ok-Some.is) in
    let is = subst (λ o. IfSome o (λ next. (arc_value {X = CommitPoint} next).snapshot ≡ after_end m c.deref-2.result.now.snapshot)) found
    c.in-Ok-Some.ensures.ended in
    let kept = subst (λ o. IfSome o (λ next. (arc_value {X = CommitPoint} next).stamp ≡ c.deref-2.result.now.stamp)) found c.in-Ok-Some.ensures.stamp in
    local_ended m commit (arc_value c.in-Ok-Some.commit) e.uncommitted.items e.cut e.calls begun c.self.invariant
    (is ∙ ap (λ (l : CommitPoint). after_end m l.snapshot) last) (kept ∙ ap (λ (l : CommitPoint). l.stamp) last)

pub returns-in-Ok-Some : goal.returns-in-Ok-Some
returns-in-Ok-Some c =
    let e = c.self.inside in
    let now = c.args.self.now in
    let view = c.self.view_is in
    let calls : e.calls ≡ now.calls = ap (λ (v : LocalValue). v.calls) view in
    let commit = arc_value e.commit in
    let next = arc_value c.in-Ok-Some.commit in
    let job = (arc_value {X = MergeSlot} c.in-Some.place).made in
    let last : c.deref-2.result.now ≡ commit = grind (arith, c.deref-2.ensures) in
    let placed : c.deref.result.now ≡ arc_value c.in-Some.place = grind (arith, c.deref.ensures) in
    let begun : now.begun ≡ Some job =
    sym (ap (λ (v : LocalValue). v.begun) view) ∙ ap (option_map (λ place. (arc_value {X = MergeSlot} place).made)) c.in-Some.is in
    let found : c.in-Ok-Some.field-0 ≡ Some c.in-Ok-Some.commit = grind (arith, c.in-Ok-Some.field-0-is, c.in-Ok-Some.commit-is, c.in-Ok-Some.is) in
    let ensured = c.in-Ok-Some.ensures in
    let fine = subst (λ (l : CommitPoint). end_fault l.snapshot.next_id (merged_of job) l.snapshot.entries ≡ None) last
    (subst (λ (p : MergeSlot). end_fault c.deref-2.result.now.snapshot.next_id (merged_of p.made) c.deref-2.result.now.snapshot.entries ≡ None) placed
    (subst (λ o. IfSome o (λ _. end_fault c.deref-2.result.now.snapshot.next_id (merged_of c.deref.result.now.made) c.deref-2.result.now.snapshot.entries ≡ None))
    found ensured.unrefused)) in
    let after = subst (λ (l : CommitPoint). next.snapshot ≡ after_end (merged_of job) l.snapshot) last
    (subst (λ (p : MergeSlot). next.snapshot ≡ after_end (merged_of p.made) c.deref-2.result.now.snapshot) placed
    (subst (λ o. IfSome o (λ n. (arc_value {X = CommitPoint} n).snapshot ≡ after_end (merged_of c.deref.result.now.made) c.deref-2.result.now.snapshot))
    found ensured.ended)) in
    let content = subst (λ (l : CommitPoint). content_of next.snapshot ≡ content_of l.snapshot) last
    (subst (λ o. IfSome o (λ n. content_of (arc_value {X = CommitPoint} n).snapshot ≡ content_of c.deref-2.result.now.snapshot)) found ensured.content) in
    let stamp = subst (λ (l : CommitPoint). next.stamp ≡ l.stamp) last
    (subst (λ o. IfSome o (λ n. (arc_value {X = CommitPoint} n).stamp ≡ c.deref-2.result.now.stamp)) found ensured.stamp) in
    let same : commit.snapshot ≡ now.snapshot = ap (λ (v : LocalValue). v.snapshot) view in
    record {
      index = index_ended (merged_of job) commit next e.uncommitted.items after content stamp ∙ ap (λ (v : LocalValue). v.index) view;
      calls = grind (arith, calls);
      counted = λ few. grind (arith, calls);
      full = λ many. grind (arith, calls, many, c.if-self-ge-MOST_CALLS);
      used_up = λ many. absurd (grind (arith, calls, many, c.if-self-ge-MOST_CALLS));
      none = λ _ none. let no : Some job ≡ None = sym begun ∙ none in cc;
      limit = ap (λ (v : LocalValue). v.limit) view;
      merge = ap (λ (v : LocalValue). v.merge) view;
      is_merged = ap (λ (v : LocalValue). v.is_merged) view;
      ends = subst (λ b. HasEnded b now (the_view (record e { calls = e.calls + 1; commit = c.in-Ok-Some.commit; begun = None }))) (sym begun) (
        subst (λ (s : SnapshotValue). end_fault s.next_id (merged_of job) s.entries ≡ None) same fine,
        subst (λ (s : SnapshotValue). next.snapshot ≡ after_end (merged_of job) s) same after,
        refl,
      );
    }

pub returns-else-is_memory : goal.returns-else-is_memory
returns-else-is_memory c =
    let e = c.self.inside in
    let now = c.args.self.now in
    let refusal = c.in-Err.refusal in
    let view = c.self.view_is in
    let calls : e.calls ≡ now.calls = ap (λ (v : LocalValue). v.calls) view in
    let job = (arc_value {X = MergeSlot} c.in-Some.place).made in
    let last : c.deref-2.result.now ≡ arc_value e.commit = grind (arith, c.deref-2.ensures) in
    let placed : c.deref.result.now ≡ arc_value c.in-Some.place = grind (arith, c.deref.ensures) in
    let begun : now.begun ≡ Some job =
    sym (ap (λ (v : LocalValue). v.begun) view) ∙ ap (option_map (λ place. (arc_value {X = MergeSlot} place).made)) c.in-Some.is in
    record {
      index = ap (λ (v : LocalValue). v.index) view;
      calls = grind (arith, calls);
      counted = λ few. grind (arith, calls);
      full = λ many. grind (arith, calls, many, c.if-self-ge-MOST_CALLS);
      used_up = λ many. absurd (grind (arith, calls, many, c.if-self-ge-MOST_CALLS));
      none = λ _ none. let no : Some job ≡ None = sym begun ∙ none in cc;
      limit = ap (λ (v : LocalValue). v.limit) view;
      merge = ap (λ (v : LocalValue). v.merge) view;
      is_merged = ap (λ (v : LocalValue). v.is_merged) view;
      ends = inr (elim c.in-Err.ensures.refused [
        | inl memory ↦ absurd (c.is_memory.ensures.no c.if-is_memory.false memory)
        | inr fault ↦
            let here = subst (λ (p : MergeSlot). end_fault c.deref-2.result.now.snapshot.next_id (merged_of p.made) c.deref-2.result.now.snapshot.entries
            ≡ Some refusal) placed fault in
            let snapshot = (arc_value e.commit).snapshot in
            let there = subst (λ (s : SnapshotValue). end_fault s.next_id (merged_of job) s.entries ≡ Some refusal)
            (ap (λ (l : CommitPoint). l.snapshot) last) here in
            let gone = subst (λ (s : SnapshotValue). gone_fault (merged_of job) s.entries ≡ Some refusal)
            (ap (λ (v : LocalValue). v.snapshot) view)
            (gone_of (merged_of job) snapshot refusal
            (omega (arith, c.self.invariant.counted.segments, c.if-self-ge-MOST_CALLS)) there) in
            subst (λ b. HasFailed b now (the_view (record e { calls = e.calls + 1; begun = None })) refusal) (sym begun)
            (gone, ap (λ (v : LocalValue). v.snapshot) view, refl)
      ]);
    }
