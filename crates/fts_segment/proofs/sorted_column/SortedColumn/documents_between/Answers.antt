-- The documents before the first number that isn't below, and up to the last that isn't above.
use Rattle.std.proofs.Common.{◌+◌, arith}
use Rattle.fts_segment.specs.SortedColumns.{numbers_in}
use Rattle.fts_segment.proofs.CountLemmas.{count_numbers}
use Rattle.fts_segment.proofs.OrderedLemmas.{cut_inside}
use Rattle.fts_segment.proofs.SumsLemmas.{total-rises, total-start}
use Rattle.fts_segment.proofs.sorted_column.SortedColumn.documents_between.Goals as goal

pub start-requires : goal.start-requires
start-requires c =
    cut_inside c.requires.0 c.args.self (c.args.high + 1) c.cuts-start.result.1 c.requires.1 c.cuts-start.ensures.high

pub start-requires-2 : goal.start-requires-2
start-requires-2 c =
    let inside = cut_inside c.requires.0 c.args.self (c.args.high + 1) c.cuts-start.result.1 c.requires.1 c.cuts-start.ensures.high in
    omega (arith, c.min.ensures, inside)

pub overflow_sub-result : goal.overflow_sub-result
overflow_sub-result c =
    let lists = c.args.self.lists.now in
    let end = c.cuts-start.result.1 in
    omega (
      arith,
      c.start.ensures,
      c.start-2.ensures,
      total-start lists end,
      total-start lists c.min.result,
      total-rises lists c.min.result end (omega (arith, c.min.ensures)),
    )

pub returns : goal.returns
returns c column are =
    let lists = c.args.self.lists.now in
    let start = c.min.result in
    let from = c.cuts-start.result.0 in
    let end = c.cuts-start.result.1 in
    let cuts = c.cuts-start.ensures in
    omega (
      arith,
      c.start.ensures,
      c.start-2.ensures,
      total-start lists end,
      total-start lists start,
      count_numbers column (numbers_in c.args.self) lists c.args.low c.args.high start from end are.index_is cuts.low cuts.high c.min.ensures,
    )
