use Rattle.std.proofs.Common.{sym, ◌∙◌}
use Rattle.fts_pack.proofs.ColumnLemmas.{column_length}
use Rattle.fts_pack.proofs.column.column.Column.len.Goals as goal

pub returns : goal.returns
returns c = c.len.ensures ∙ sym (column_length _ _ _ _ _ c.self.view_is c.self.invariant.0)
