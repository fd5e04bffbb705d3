-- What is left of the proof of `writer::Writer::merge_by`.
use Rattle.std.proofs.Common.{◌∙◌, ap, map, sym, subst}
use Rattle.fts_snapshots.specs.Infos.{info_of, infos_after_merge}
use Rattle.fts_snapshots.specs.Merges.{entries_at}
use Rattle.fts_snapshots.specs.MergedSegments.{merged_of}
use Rattle.fts_snapshots.specs.Successors.{Follows}
use Rattle.fts_snapshots.proofs.FollowLemmas.{follows_end}
use Rattle.fts_snapshots.specs.Snapshots.{merge_fault}
use Rattle.fts_snapshots.specs.LateMerges.{after_merge}
use Rattle.fts_snapshots.proofs.SourceLemmas.{unless_ok}
use Rattle.fts_index.specs.Publications.{FrontValue, published}
use Rattle.fts_index.specs.Writers.{WriterValue, with_merge}
use Rattle.fts_index.proofs.writer.Writer.merge_by.Goals as goal

pub returns-clause-writer : goal.returns-clause-writer
returns-clause-writer g c =
    let inside = c.self.inside in
    let before = inside.publisher in
    let ids = c.args.ids.now in
    let s = c.snapshot.result.now in
    let next = (unless_ok (merge_fault ids s) (after_merge ids s) c.in_ok-merged.merged c.in_ok-merged.ensures.snapshot).1 in
    let writer : FrontValue → WriterValue = λ front. record { front = front; rounds = inside.rounds; round = inside.round } in
    ap writer (c.in_ok-publish_again.ensures.new ∙ ap (λ n. published before.stamp n before) (next ∙ ap (after_merge ids) c.snapshot.ensures.snapshot))
    ∙ ap (with_merge ids) c.self.view_is

pub returns-clause-segments : goal.returns-clause-segments
returns-clause-segments g c =
    let same = c.snapshot.ensures.snapshot ∙ ap (λ (w : WriterValue). w.front.snapshot) c.self.view_is in
    ap (λ (f : FrontValue). map info_of f.snapshot.entries) c.in_ok-publish_again.ensures.new ∙ c.in_ok-merged.ensures.segments
    ∙ ap (infos_after_merge c.args.ids.now) same

pub returns-clause-follows : goal.returns-clause-follows
returns-clause-follows g c =
    let ids = c.args.ids.now in
    let old = c.args.self.now.front.snapshot in
    let s = c.snapshot.result.now in
    let same = c.snapshot.ensures.snapshot ∙ ap (λ (w : WriterValue). w.front.snapshot) c.self.view_is in
    let next = (unless_ok (merge_fault ids s) (after_merge ids s) c.in_ok-merged.merged c.in_ok-merged.ensures.snapshot).1 in
    subst (Follows old) (sym (ap (λ (f : FrontValue). f.snapshot) c.in_ok-publish_again.ensures.new ∙ next ∙ ap (after_merge ids) same))
    (follows_end old (merged_of (entries_at old.entries ids)))
