use Rattle.std.proofs.Common.{◌∙◌}
use Rattle.fts_segment.proofs.OrderedLemmas.{column_in-keyword, column_in-number}
use Rattle.fts_segment.proofs.segment.Segment.column.Goals as goal

pub returns-clause-numbers : goal.returns-clause-numbers
returns-clause-numbers c number = c.ordered.ensures.is.column_is ∙ column_in-number c.args.self.now c.args.field number

pub returns-clause-ordinals : goal.returns-clause-ordinals
returns-clause-ordinals c keyword = c.ordered.ensures.is.column_is ∙ column_in-keyword c.args.self.now c.args.field keyword
