-- What remains of a list alone, by the node.
use Rattle.std.proofs.Common.{subst}
use Rattle.fts_cursor.specs.TreeValues.{LeavesList}
use Rattle.fts_cursor.proofs.AloneLemmas.{source_left}
use Rattle.fts_cursor.proofs.tree.Tree.doc.Goals as goal

pub returns-clause-left : goal.returns-clause-left
returns-clause-left c =
    subst LeavesList c.self.view_is (source_left c.self.inside.doc c.self.inside.source c.self.invariant.stands)
