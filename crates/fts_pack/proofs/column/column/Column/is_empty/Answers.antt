use Rattle.std.proofs.Common.{◌==◌, ap, sym, ◌∙◌}
use Rattle.fts_pack.proofs.ColumnLemmas.{column_length}
use Rattle.fts_pack.proofs.column.column.Column.is_empty.Goals as goal

pub returns : goal.returns
returns c = c.is_empty.ensures ∙ ap (λ n. n == 0) (sym (column_length _ _ _ _ _ c.self.view_is c.self.invariant.0))
