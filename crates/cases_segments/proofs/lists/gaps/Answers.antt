use Rattle.std.proofs.Common.{sym, subst}
use Rattle.std.specs.List.Sorted.{IsStrictlyIncreasing}
use Rattle.fts_pack.proofs.DocumentsLemmas.{Rises-from_increasing}
use Rattle.cases_segments.proofs.lists.gaps.Goals as goal

pub push_gaps-pushed-requires : goal.push_gaps-pushed-requires
push_gaps-pushed-requires c =
    Rises-from_increasing _ (subst IsStrictlyIncreasing (sym c.deref.ensures.value) c.in-Some.ensures)
