use Rattle.std.proofs.Common.{ap, ◌∙◌}
use Rattle.fts_segment.specs.Between.{count_between}
use Rattle.fts_segment.specs.SortedColumns.{column_in}
use Rattle.fts_segment.proofs.OrderedLemmas.{column_in-keyword, column_in-number}
use Rattle.fts_segment.proofs.segment.Segment.documents_between.Goals as goal

pub documents_between-requires : goal.documents_between-requires
documents_between-requires c = (column_in c.args.self.now c.args.field, c.ordered.ensures.is)

pub returns-clause-numbers : goal.returns-clause-numbers
returns-clause-numbers c number =
    c.documents_between.ensures (column_in c.args.self.now c.args.field) c.ordered.ensures.is
    ∙ ap (count_between c.args.low c.args.high) (column_in-number c.args.self.now c.args.field number)

pub returns-clause-ordinals : goal.returns-clause-ordinals
returns-clause-ordinals c keyword =
    c.documents_between.ensures (column_in c.args.self.now c.args.field) c.ordered.ensures.is
    ∙ ap (count_between c.args.low c.args.high) (column_in-keyword c.args.self.now c.args.field keyword)
