use Rattle.std.proofs.Common.{sym}
use Rattle.fts_pack.proofs.ColumnLemmas.{column_present}
use Rattle.fts_pack.proofs.column.column.Column.present.Goals as goal

pub returns : goal.returns
returns c = sym (column_present _ _ _ _ _ c.self.view_is c.self.invariant.0)
