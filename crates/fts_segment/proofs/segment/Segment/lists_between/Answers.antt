use Rattle.std.proofs.Common.{subst}
use Rattle.fts_pack.specs.ListRange.{lists_in_range}
use Rattle.fts_segment.specs.Between.{AreBetween, NumberColumn}
use Rattle.fts_segment.specs.SortedColumns.{column_in}
use Rattle.fts_segment.proofs.OrderedLemmas.{column_in-keyword, column_in-number}
use Rattle.fts_segment.proofs.segment.Segment.lists_between.Goals as goal

pub lists_between-requires : goal.lists_between-requires
lists_between-requires c = (column_in c.args.self.now c.args.field, c.ordered.ensures.is)

pub returns-clause-numbers : goal.returns-clause-numbers
returns-clause-numbers c number =
    let P : NumberColumn → Type 0 = λ column. AreBetween column c.args.low c.args.high (lists_in_range c.lists_between.result) in
    let segment = c.args.self.now in
    subst P (column_in-number segment c.args.field number) (c.lists_between.ensures (column_in segment c.args.field) c.ordered.ensures.is)

pub returns-clause-ordinals : goal.returns-clause-ordinals
returns-clause-ordinals c keyword =
    let P : NumberColumn → Type 0 = λ column. AreBetween column c.args.low c.args.high (lists_in_range c.lists_between.result) in
    let segment = c.args.self.now in
    subst P (column_in-keyword segment c.args.field keyword) (c.lists_between.ensures (column_in segment c.args.field) c.ordered.ensures.is)
