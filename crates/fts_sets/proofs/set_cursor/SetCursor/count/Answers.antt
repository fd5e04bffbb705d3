-- Nothing is left at the end.
use Rattle.std.proofs.Common.{◌^◌}
use Rattle.fts_sets.proofs.SetLemmas.{nothing_left}
use Rattle.fts_sets.proofs.set_cursor.SetCursor.count.Goals as goal

pub returns-clause-none : goal.returns-clause-none
returns-clause-none c = nothing_left c.self.inside.set (2 ^ 32) c.self.invariant.rises c.self.invariant.few
