-- The rest of the proof of `replace_sources` of a writer.
use Rattle.std.proofs.Common.{◌≡◌, ◌⊎◌, Ok, Err, ap, subst, sym, ◌∙◌}
use Rattle.fts_base.specs.declared.refusal.Refusal.TheVariants.{Memory}
use Rattle.fts_base.specs.Results.{ok_unless}
use Rattle.fts_snapshots.specs.LateMerges.{after_end, end_fault}
use Rattle.fts_snapshots.specs.Snapshots.{SnapshotValue}
use Rattle.fts_index.specs.Publications.{FrontValue}
use Rattle.fts_index.specs.Writers.{WriterValue}
use Rattle.fts_index.proofs.writer.WriterLateMergeable.replace_sources.Goals as goal

pub returns-in-Err-clause-snapshot : goal.returns-in-Err-clause-snapshot
returns-in-Err-clause-snapshot g c =
    let m = c.args.merged.now in
    let same = c.snapshot.ensures.snapshot ∙ ap (λ (w : WriterValue). w.front.snapshot) c.self.view_is in
    subst (λ (s : SnapshotValue). (c.in-Err.refusal ≡ Memory) ⊎ (ok_unless (end_fault s.next_id m s.entries) (after_end m s) ≡ Err c.in-Err.refusal)) same
    c.in-Err.ensures.snapshot

pub returns-clause-snapshot : goal.returns-clause-snapshot
returns-clause-snapshot g c =
    let m = c.args.merged.now in
    let same = c.snapshot.ensures.snapshot ∙ ap (λ (w : WriterValue). w.front.snapshot) c.self.view_is in
    let new = c.publish_again.new.self.snapshot in
    let shown : new ≡ c.in-Ok.next = ap (λ (f : FrontValue). f.snapshot) c.in_ok-publish_again.ensures.new in
    subst (λ (s : SnapshotValue). ok_unless (end_fault s.next_id m s.entries) (after_end m s) ≡ Ok new) same (c.in-Ok.ensures.snapshot ∙ ap Ok (sym shown))
