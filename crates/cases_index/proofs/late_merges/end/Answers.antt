-- The merges that are left fit what the end leaves, and what is handed back fits as before.
use Rattle.std.proofs.Common.{List, sym, subst, arith}
use Rattle.dilforec.specs.MergedSegments.{MergedSegmentValue}
use Rattle.dilforec.specs.Successors.{Fits}
use Rattle.dilforec.specs.Writers.{WriterValue}
use Rattle.cases_index.specs.Late.{AllFit}
use Rattle.cases_index.proofs.LateLemmas.{all_further, all_without, one_fits}
use Rattle.cases_index.proofs.late_merges.end.Goals as goal

pub returns-in-Ok : goal.returns-in-Ok
returns-in-Ok g c =
    let old = c.args.writer.now.front.snapshot in
    let rest = c.remove-merged.new.self.items in
    let left = subst (λ (ms : List MergedSegmentValue). AllFit old ms) (sym c.remove-merged.ensures.by_index.2)
    (all_without old c.args.late.now.items c.size-which.result c.requires) in
    all_further old c.end_merge.new.self.front.snapshot c.in-Ok.ensures.follows rest left

pub keep-requires-clause-all : goal.keep-requires-clause-all
keep-requires-clause-all g c =
    let old = c.args.writer.now.front.snapshot in
    let rest = c.remove-merged.new.self.items in
    let left = subst (λ (ms : List MergedSegmentValue). AllFit old ms) (sym c.remove-merged.ensures.by_index.2)
    (all_without old c.args.late.now.items c.size-which.result c.requires) in
    subst (λ (w : WriterValue). AllFit w.front.snapshot rest) (sym c.in-Err.ensures.same) left

pub keep-requires-clause-fits : goal.keep-requires-clause-fits
keep-requires-clause-fits g c =
    let old = c.args.writer.now.front.snapshot in
    let removed = c.remove-merged.result in
    let fits = one_fits old c.args.late.now.items c.size-which.result removed (omega arith) c.remove-merged.ensures.value c.requires in
    let back = subst (λ (m : MergedSegmentValue). Fits m old) (sym c.in-Err.ensures.handed_back) fits in
    subst (λ (w : WriterValue). Fits c.in-Err.merged w.front.snapshot) (sym c.in-Err.ensures.same) back
