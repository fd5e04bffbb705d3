-- The numbers within bounds are those between two.
use Rattle.std.proofs.Common.{sym}
use Rattle.fts_cursor.proofs.RangeLemmas.{Bounded, no_greatest, no_least, within_hits}
use Rattle.fts_cursor.proofs.range.number_bounds.Goals as goal

pub returns-in_err-low : goal.returns-in_err-low
returns-in_err-low c =
    let bounded : Bounded c.args.segment.now c.args.field c.args.lower.now c.args.upper.now = record {
      fits = c.requires.range;
      numbers = c.requires.numbers;
      whole = c.least-low.ensures.whole;
      below = c.greatest-high.ensures.whole;
      documents = c.docs.ensures.documents;
      fitting = c.docs.ensures.fit;
      fit = c.column-column.ensures.fit;
      small = rw (c.column-column.ensures.numbers c.requires.numbers) at c.most_of.ensures;
    } in
    rw c.from_residual.ensures
    (sym (no_least c.args.segment.now c.args.field c.args.lower.now c.args.upper.now bounded (rw c.in_err-low.was at c.least-low.ensures.is)))

pub returns-in_err-high : goal.returns-in_err-high
returns-in_err-high c =
    let bounded : Bounded c.args.segment.now c.args.field c.args.lower.now c.args.upper.now = record {
      fits = c.requires.range;
      numbers = c.requires.numbers;
      whole = c.least-low.ensures.whole;
      below = c.greatest-high.ensures.whole;
      documents = c.docs.ensures.documents;
      fitting = c.docs.ensures.fit;
      fit = c.column-column.ensures.fit;
      small = rw (c.column-column.ensures.numbers c.requires.numbers) at c.most_of.ensures;
    } in
    rw c.from_residual-in_err-high.ensures
    (sym (no_greatest c.args.segment.now c.args.field c.args.lower.now c.args.upper.now bounded (rw c.in_err-high.was at c.greatest-high.ensures.is)))

pub returns : goal.returns
returns c =
    let bounded : Bounded c.args.segment.now c.args.field c.args.lower.now c.args.upper.now = record {
      fits = c.requires.range;
      numbers = c.requires.numbers;
      whole = c.least-low.ensures.whole;
      below = c.greatest-high.ensures.whole;
      documents = c.docs.ensures.documents;
      fitting = c.docs.ensures.fit;
      fit = c.column-column.ensures.fit;
      small = rw (c.column-column.ensures.numbers c.requires.numbers) at c.most_of.ensures;
    } in
    within_hits c.args.segment.now c.args.field c.args.lower.now c.args.upper.now bounded c.in_ok-low.field-0 c.in_ok-high.field-0
    (rw c.in_ok-low.was at c.least-low.ensures.is) (rw c.in_ok-high.was at c.greatest-high.ensures.is)
