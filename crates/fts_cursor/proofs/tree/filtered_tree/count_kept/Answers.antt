-- What the windows have and what is counted after them are all.
use Rattle.std.proofs.Common.{arith}
use Rattle.fts_cursor.proofs.TreeLemmas.{Walked-trans}
use Rattle.fts_cursor.proofs.tree.filtered_tree.count_kept.Goals as goal

pub returns-clause-count : goal.returns-clause-count
returns-clause-count c = omega (arith, c.count_windows-counted.ensures.sum, c.count_taken-rest.ensures.count, c.saturating_add.ensures)

pub returns-clause-walked : goal.returns-clause-walked
returns-clause-walked c = Walked-trans _ _ _ c.count_windows-counted.ensures.walked c.count_taken-rest.ensures.walked
