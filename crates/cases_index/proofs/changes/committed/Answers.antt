-- The snapshot after a commit follows the one before it.
use Rattle.std.proofs.Common.{sym, subst}
use Rattle.dilforec.specs.Successors.{Follows}
use Rattle.dilforec.proofs.FollowLemmas.{follows_commit}
use Rattle.dilforec.specs.Writers.{WriterValue}
use Rattle.cases_index.proofs.changes.committed.Goals as goal

pub returns-in-Ok : goal.returns-in-Ok
returns-in-Ok g c =
    let old = c.args.writer.now.front.snapshot in
    subst (λ (w : WriterValue). Follows old w.front.snapshot) (sym c.in-Ok.ensures.writer) (follows_commit old c.args.cut c.args.batch.now.ops)
