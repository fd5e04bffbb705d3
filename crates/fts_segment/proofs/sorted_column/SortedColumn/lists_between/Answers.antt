use Rattle.std.proofs.Common.{◌+◌, List, ℕ, subst, sym, arith}
use Rattle.fts_segment.specs.Between.{AreBetween}
use Rattle.fts_segment.specs.SortedColumns.{numbers_in}
use Rattle.fts_segment.proofs.BetweenLemmas.{between_numbers}
use Rattle.fts_segment.proofs.OrderedLemmas.{cut_inside}
use Rattle.fts_segment.proofs.sorted_column.SortedColumn.lists_between.Goals as goal

pub range-requires-clause-order : goal.range-requires-clause-order
range-requires-clause-order c = omega (arith, c.min.ensures)

pub range-requires-clause-within : goal.range-requires-clause-within
range-requires-clause-within c =
    cut_inside c.requires.0 c.args.self (c.args.high + 1) c.cuts-start.result.1 c.requires.1 c.cuts-start.ensures.high

pub returns : goal.returns
returns c column are =
    let P : List (List ℕ) → Type 0 = AreBetween column c.args.low c.args.high in
    subst P (sym c.range.ensures)
    (between_numbers column (numbers_in c.args.self) c.args.self.lists.now c.args.low c.args.high c.min.result c.cuts-start.result.0 c.cuts-start.result.1
    are.index_is c.cuts-start.ensures.low c.cuts-start.ensures.high c.min.ensures)
