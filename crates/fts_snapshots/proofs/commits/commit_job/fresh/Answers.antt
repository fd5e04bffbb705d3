-- The rest of the proof of `commits::commit_job::fresh`.
use Rattle.std.proofs.Common.{sym, subst, ◌∙◌}
use Rattle.fts_snapshots.specs.Entries.{IsEntry}
use Rattle.fts_snapshots.proofs.EntryLemmas.{built_live, entry_fresh}
use Rattle.fts_snapshots.proofs.commits.commit_job.fresh.Goals as goal

pub new-requires : goal.new-requires
new-requires c =
    let new = c.args.new.now in
    let documents = new.builder.now.segment in
    subst IsEntry
    (sym (built_live c.args.ops.now new.id new.builder.now c.in_ok-segment.segment c.docs.result c.in_ok-all.all c.in_ok-live.live c.in_ok-segment.ensures.ok
    c.docs.ensures.len c.in_ok-all.ensures.ok c.in_ok-live.ensures.ok))
    (entry_fresh documents.schema c.args.ops.now new.id documents.documents new.few)

pub returns-clause-ok : goal.returns-clause-ok
returns-clause-ok c =
    let new = c.args.new.now in
    c.in_ok-new.ensures
    ∙ built_live c.args.ops.now new.id new.builder.now c.in_ok-segment.segment c.docs.result c.in_ok-all.all c.in_ok-live.live c.in_ok-segment.ensures.ok
    c.docs.ensures.len c.in_ok-all.ensures.ok c.in_ok-live.ensures.ok
