use Rattle.std.proofs.Common.{sym, ◌∙◌}
use Rattle.fts_engine.proofs.Adds.{alive-adds}
use Rattle.fts_engine.proofs.list_engine.commit.Goals as goal

pub returns-then-all_add-clause-ok : goal.returns-then-all_add-clause-ok
returns-then-all_add-clause-ok c =
    c.in_ok-append.ensures.ok ∙ sym (alive-adds c.args.schema.now c.args.documents.now.items c.args.ops.now (sym c.all_add.ensures ∙ c.if-all_add.true))
