-- All is as before.
use Rattle.std.proofs.Common.{sym, subst}
use Rattle.dilforec.specs.Successors.{Fits}
use Rattle.dilforec.specs.MergedSegments.{MergedSegmentValue}
use Rattle.dilforec.specs.Writers.{WriterValue}
use Rattle.tests_merges.proofs.growths.end.Goals as goal

pub ended-requires : goal.ended-requires
ended-requires g c =
    subst (λ (m : MergedSegmentValue). Fits m c.end_merge.new.self.front.snapshot) (sym c.in-Err.ensures.handed_back)
    (subst (λ (w : WriterValue). Fits c.args.merged w.front.snapshot) (sym c.in-Err.ensures.same) c.requires)
