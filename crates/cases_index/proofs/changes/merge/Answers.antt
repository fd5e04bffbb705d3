-- The snapshot after a merge follows the one before it.
use Rattle.std.proofs.Common.{sym, subst}
use Rattle.dilforec.specs.Merges.{entries_at}
use Rattle.dilforec.specs.MergedSegments.{merged_of}
use Rattle.dilforec.specs.Successors.{Follows}
use Rattle.dilforec.proofs.FollowLemmas.{follows_end}
use Rattle.dilforec.specs.Writers.{WriterValue}
use Rattle.cases_index.proofs.changes.merge.Goals as goal

pub returns-in-Ok : goal.returns-in-Ok
returns-in-Ok g c =
    let old = c.args.writer.now.front.snapshot in
    subst (λ (w : WriterValue). Follows old w.front.snapshot) (sym c.in-Ok.ensures.writer)
    (follows_end old (merged_of (entries_at old.entries c.deref.result.now)))
