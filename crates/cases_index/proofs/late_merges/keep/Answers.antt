-- What was merged fits, and so do the others.
use Rattle.std.proofs.Common.{List, sym, subst}
use Rattle.dilforec.specs.MergedSegments.{MergedSegmentValue}
use Rattle.cases_index.specs.Late.{AllFit}
use Rattle.cases_index.proofs.LateLemmas.{all_with}
use Rattle.cases_index.proofs.late_merges.keep.Goals as goal

pub returns-in-Ok : goal.returns-in-Ok
returns-in-Ok c =
    let snapshot = c.args.writer.now.front.snapshot in
    subst (λ (ms : List MergedSegmentValue). AllFit snapshot ms) (sym c.in-Ok.ensures.items)
    (all_with snapshot c.args.late.now.items c.args.merged c.requires.all c.requires.fits)
