-- What is left of the proof of `steps::commit`.
use Rattle.std.proofs.Common.{sym, ap, subst}
use Rattle.dilforec.specs.Publications.{FrontValue}
use Rattle.dilforec.specs.declared.Cut.TheVariants.{Runs}
use Rattle.dilforec.specs.Successors.{Follows}
use Rattle.dilforec.specs.Writers.{WriterValue}
use Rattle.dilforec.proofs.FollowLemmas.{follows_commit}
use Rattle.tests_merges.proofs.steps.commit.Goals as goal

pub returns-in-Ok : goal.returns-in-Ok
returns-in-Ok g c =
    let new = c.commit.new.self.front.snapshot in
    subst (λ (f : FrontValue). Follows f.snapshot new) c.batch.ensures
    (subst (Follows c.batch.new.writer.front.snapshot) (sym (ap (λ (w : WriterValue). w.front.snapshot) c.in-Ok.ensures.writer))
    (follows_commit c.batch.new.writer.front.snapshot (Runs 1) c.in_ok-batch.batch.ops))
