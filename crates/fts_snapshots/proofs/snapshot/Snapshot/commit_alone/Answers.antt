-- The rest of the proof of `snapshot::Snapshot::commit_alone`.
use Rattle.std.proofs.Common.{map, filter, ap, ◌∙◌}
use Rattle.fts_snapshots.specs.Entries.{has_live}
use Rattle.fts_snapshots.specs.Jobs.{entry_of}
use Rattle.fts_snapshots.proofs.PreparedLemmas.{gives_commit}
use Rattle.fts_snapshots.proofs.snapshot.Snapshot.commit_alone.Goals as goal

pub finish-requires : goal.finish-requires
finish-requires c = c.in_ok-entries.ensures.ok ∙ ap (λ js. filter has_live (map entry_of js)) c.deref.ensures.value ∙ ap (filter has_live) c.in_ok-jobs.ensures

pub returns : goal.returns
returns c =
    gives_commit c.args.cut c.args.batch.now c.args.self.now c.in_ok-commit.commit c.finish.result c.in_ok-commit.ensures.commit c.finish.ensures.snapshot
    c.finish.ensures.content c.finish.ensures.memory
