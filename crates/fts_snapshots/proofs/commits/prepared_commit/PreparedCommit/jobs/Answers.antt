-- The rest of the proof of `commits::prepared_commit::PreparedCommit::jobs`.
use Rattle.std.proofs.Common.{◌≡◌, ◌≤◌, ◌++◌, false, length, map, ap, ◌∙◌}
use Rattle.std.proofs.lemmas.List.Elements.{All-from_recursion, All-same, recursion_from_All}
use Rattle.std.proofs.lemmas.Result.{IfOk-weaker}
use Rattle.fts_model.specs.Operations.{added}
use Rattle.fts_segment.specs.Segments.{BuilderValue}
use Rattle.fts_snapshots.specs.Commits.{fresh_from, struck, struck_by}
use Rattle.fts_snapshots.specs.Cuts.{groups_of}
use Rattle.fts_snapshots.specs.Groups.{built_from, documents_in}
use Rattle.fts_snapshots.specs.PreparedCommits.{entries_left}
use Rattle.fts_snapshots.proofs.CommitLemmas.{same_built, same_struck}
use Rattle.fts_snapshots.proofs.CutLemmas.{groups_within}
use Rattle.fts_snapshots.proofs.commits.prepared_commit.PreparedCommit.jobs.Goals as goal

pub commit_jobs-requires-clause-few : goal.commit_jobs-requires-clause-few
commit_jobs-requires-clause-few c =
    let cut = c.self.inside.cut in
    let adds = added c.self.inside.batch.now in
    All-same (λ g. length g ≤ 65536) _ (groups_of cut adds) (ap documents_in c.deref.ensures.value ∙ c.self.invariant.0)
    (All-from_recursion (λ g. length g ≤ 65536) (groups_of cut adds) (groups_within cut adds c.self.invariant.2.cut))

pub returns : goal.returns
returns c =
    let inside = c.self.inside in
    let s = inside.snapshot.now in
    let batch = inside.batch.now in
    let ops = c.strikers.result.now in
    let old = map (struck batch) (struck_by batch s.entries) in
    let schemas = recursion_from_All (λ (b : BuilderValue). (b.segment.schema ≡ s.schema) × (b.merging ≡ false)) inside.groups.items c.self.invariant.1 in
    IfOk-weaker c.commit_jobs.result _ _
    (λ jobs h.
    h ∙ ap (λ es. map (struck ops) es ++ built_from ops c.next_id.result c.deref.result.now) (c.struck_by-entries.ensures ∙ ap (struck_by batch) c.entries.ensures.entries)
    ∙ ap (λ es. es ++ built_from ops c.next_id.result c.deref.result.now) (same_struck ops batch c.strikers.ensures (struck_by batch s.entries))
    ∙ ap (λ id. old ++ built_from ops id c.deref.result.now) c.next_id.ensures.next
    ∙ ap (λ bs. old ++ built_from ops s.next_id bs) c.deref.ensures.value
    ∙ ap (λ es. old ++ es) (same_built s.schema ops batch c.strikers.ensures s.next_id inside.groups.items schemas)
    ∙ ap (λ gs. old ++ fresh_from s.schema batch s.next_id gs) c.self.invariant.0
    ∙ ap entries_left c.self.view_is)
    c.commit_jobs.ensures
