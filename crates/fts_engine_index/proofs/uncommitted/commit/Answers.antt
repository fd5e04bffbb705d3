use Rattle.std.proofs.Common.{◌∙◌, ap}
use Rattle.fts_engine_index.specs.UncommittedOperations.{ops_of}
use Rattle.fts_snapshots.proofs.CountLemmas.{memory_alone}
use Rattle.fts_engine_index.proofs.CommitLemmas.{commits_batch, no_batch_fault}
use Rattle.fts_engine_index.proofs.uncommitted.commit.Goals as goal

pub returns-in-Ok-commit-clause-commits : goal.returns-in-Ok-commit-clause-commits
returns-in-Ok-commit-clause-commits g c =
    commits_batch c.args.options.cut c.in-Ok.batch (ops_of c.args.uncommitted.now) c.args.writer.now c.gather.new.writer c.commit.new.self
    c.gather.ensures.front
    c.in-Ok-commit.ensures.writer (c.in-Ok.ensures.ops ∙ ap ops_of c.replace.ensures.value) c.in-Ok-commit.ensures.content

pub returns-in-Err-commit-clause-memory : goal.returns-in-Err-commit-clause-memory
returns-in-Err-commit-clause-memory g c =
    memory_alone _ _
    (no_batch_fault c.args.options.cut c.in-Ok.batch (ops_of c.args.uncommitted.now) c.args.writer.now c.gather.new.writer c.gather.ensures.front
    (c.in-Ok.ensures.ops ∙ ap ops_of c.replace.ensures.value) c.in-Ok.ensures.batch.its c.requires.fit c.requires.numbers)
    c.in-Err-commit.ensures.refused
