use Rattle.std.proofs.Common.{subst}
use Rattle.std.specs.List.Sorted.{IsStrictlyIncreasing}
use Rattle.fts_cursor.proofs.ListedLemmas.{rises_left}
use Rattle.fts_cursor.proofs.list_union.ListedCursorDocSet.doc.Goals as goal

pub returns-clause-rises : goal.returns-clause-rises
returns-clause-rises c =
    let s = c.self.inside in
    subst IsStrictlyIncreasing c.self.view_is (rises_left s.at s.documents.items c.self.invariant)
