-- The rest of the proof of `commits::prepared_commit::PreparedCommit::finish`.
use Rattle.std.proofs.Common.{◌≡◌, ◌<◌, ◌+◌, ◌^◌, ◌++◌, length, List, ap, subst, sym, ◌∙◌, arith}
use Rattle.fts_model.specs.Operations.{alive, adds}
use Rattle.fts_snapshots.specs.Commits.{spared_by}
use Rattle.fts_snapshots.specs.Entries.{EntryValue}
use Rattle.fts_snapshots.specs.PreparedCommits.{PreparedValue, entries_kept, prepared}
use Rattle.fts_snapshots.specs.Snapshots.{IsSnapshot, content_of}
use Rattle.fts_snapshots.proofs.PreparedLemmas.{all_left, content-left, few_left, finished, left, left_is}
use Rattle.fts_snapshots.proofs.commits.prepared_commit.PreparedCommit.finish.Goals as goal

pub entries_after-requires : goal.entries_after-requires
entries_after-requires c =
    let inside = c.self.inside in
    let p = prepared inside.cut inside.batch.now inside.snapshot.now in
    let kept = c.requires ∙ ap entries_kept (sym c.self.view_is) in
    let all = ap (λ es. spared_by p.batch es ++ c.args.entries.items) c.entries.ensures.entries
    ∙ ap (λ es. spared_by p.batch p.snapshot.entries ++ es) kept ∙ all_left p c.self.invariant.2 in
    subst (λ (es : List EntryValue). length es < 2 ^ 64) (sym all) (few_left p c.self.invariant.2)

pub of-requires : goal.of-requires
of-requires c =
    let inside = c.self.inside in
    let p = prepared inside.cut inside.batch.now inside.snapshot.now in
    let same = finished p c.self.invariant.2 c.in_ok-schema.schema c.entries.result.now c.args.entries.items c.in_ok-entries.entries
    inside.groups.items (c.next_id.result + c.len.result)
    (c.in_ok-schema.ensures.cases ∙ c.schema.ensures.schema) c.entries.ensures.entries (c.requires ∙ ap entries_kept (sym c.self.view_is))
    c.in_ok-entries.ensures c.self.invariant.0 (omega (arith, c.next_id.ensures.next, c.len.ensures)) in
    subst IsSnapshot (sym same) (left_is p c.self.invariant.2)

-- the snapshot that the commit finishes
made : (c : goal.After-of) → c.of.result ≡ left (prepared c.self.inside.cut c.self.inside.batch.now c.self.inside.snapshot.now)
made c =
    let inside = c.self.inside in
    let p = prepared inside.cut inside.batch.now inside.snapshot.now in
    c.of.ensures
    ∙ finished p c.self.invariant.2 c.in_ok-schema.schema c.entries.result.now c.args.entries.items c.in_ok-entries.entries
    inside.groups.items (c.next_id.result + c.len.result)
    (c.in_ok-schema.ensures.cases ∙ c.schema.ensures.schema) c.entries.ensures.entries (c.requires ∙ ap entries_kept (sym c.self.view_is))
    c.in_ok-entries.ensures c.self.invariant.0 (omega (arith, c.next_id.ensures.next, c.len.ensures))

pub returns-clause-snapshot : goal.returns-clause-snapshot
returns-clause-snapshot c = made c ∙ ap left c.self.view_is

pub returns-clause-content : goal.returns-clause-content
returns-clause-content c =
    let inside = c.self.inside in
    let p = prepared inside.cut inside.batch.now inside.snapshot.now in
    ap content_of (made c)
    ∙ content-left p c.self.invariant.2
    ∙ ap (λ (q : PreparedValue). alive q.snapshot.schema (adds (content_of q.snapshot) ++ q.batch)) c.self.view_is
