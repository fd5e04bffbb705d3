-- What is left of the proof of `stats` of an engine of one thread.
use Rattle.std.proofs.Common.{◌≡◌, ◌≤◌, length, ap, subst, sym, ◌∙◌, arith}
use Rattle.std.specs.Arc.{arc_value}
use Rattle.fts_snapshots.specs.Snapshots.{IsSnapshot}
use Rattle.fts_snapshots.specs.declared.commit_point.CommitPoint.{CommitPoint}
use Rattle.fts_engine_local.specs.declared.stats.Stats.{Stats}
use Rattle.fts_engine_local.specs.LocalIndexes.{LocalValue}
use Rattle.fts_engine_local.specs.Stats.{stats_of}
use Rattle.fts_engine_local.proofs.StatsLemmas.{live_are_documents, live_are_within, segments_have_live}
use Rattle.fts_engine_local.proofs.local_engine.LocalEngine.stats.Goals as goal

pub returns-clause-live : goal.returns-clause-live
returns-clause-live c =
    let commit = arc_value c.self.inside.commit in
    let same : c.deref.result.now ≡ commit = grind (arith, c.deref.ensures) in
    let is = subst (λ (l : CommitPoint). IsSnapshot l.snapshot) same c.entries.ensures.snapshot in
    let told : c.stats_of.result ≡ stats_of commit.snapshot.entries =
    c.stats_of.ensures ∙ ap stats_of (c.entries.ensures.entries ∙ ap (λ (l : CommitPoint). l.snapshot.entries) same) in
    ap (λ (s : Stats). s.live) told ∙ live_are_documents commit.snapshot is commit.stamped.few ∙ ap (λ (v : LocalValue). length v.index.documents)
    c.self.view_is

pub returns-clause-segments : goal.returns-clause-segments
returns-clause-segments c =
    let commit = arc_value c.self.inside.commit in
    let same : c.deref.result.now ≡ commit = grind (arith, c.deref.ensures) in
    let is = subst (λ (l : CommitPoint). IsSnapshot l.snapshot) same c.entries.ensures.snapshot in
    let told : c.stats_of.result ≡ stats_of commit.snapshot.entries =
    c.stats_of.ensures ∙ ap stats_of (c.entries.ensures.entries ∙ ap (λ (l : CommitPoint). l.snapshot.entries) same) in
    subst (λ (s : Stats). s.segments ≤ s.live) (sym told) (segments_have_live commit.snapshot is commit.stamped.few)

pub returns-clause-documents : goal.returns-clause-documents
returns-clause-documents c =
    let commit = arc_value c.self.inside.commit in
    let same : c.deref.result.now ≡ commit = grind (arith, c.deref.ensures) in
    let is = subst (λ (l : CommitPoint). IsSnapshot l.snapshot) same c.entries.ensures.snapshot in
    let told : c.stats_of.result ≡ stats_of commit.snapshot.entries =
    c.stats_of.ensures ∙ ap stats_of (c.entries.ensures.entries ∙ ap (λ (l : CommitPoint). l.snapshot.entries) same) in
    subst (λ (s : Stats). s.live ≤ s.documents) (sym told) (live_are_within commit.snapshot is commit.stamped.few)
