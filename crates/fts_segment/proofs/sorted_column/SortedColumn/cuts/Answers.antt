-- Numbers that aren't stored are list indexes.
use Rattle.std.proofs.Common.{◌+◌, ◌^◌, ◌<◌, ℕ, List, Option, length, sym, subst, arith}
use Rattle.std.specs.Borrow.{Bor}
use Rattle.std.specs.List.Sorted.{IsStrictlyIncreasing}
use Rattle.fts_segment.specs.Between.{IsCut}
use Rattle.fts_segment.specs.SortedColumns.{different}
use Rattle.fts_segment.proofs.BetweenLemmas.{IsCut-places}
use Rattle.fts_segment.proofs.sorted_column.SortedColumn.cuts.Goals as goal

pub lower_bound-requires : goal.lower_bound-requires
lower_bound-requires c =
    let P : Option (Bor (List ℕ)) → Type 0 = λ ns. IsStrictlyIncreasing (different ns (length c.args.self.lists.now)) in
    subst P c.in-Some.is c.requires.1.index_is.rises

pub upper_bound-requires : goal.upper_bound-requires
upper_bound-requires c =
    let P : Option (Bor (List ℕ)) → Type 0 = λ ns. IsStrictlyIncreasing (different ns (length c.args.self.lists.now)) in
    subst P c.in-Some.is c.requires.1.index_is.rises

pub returns-in-Some-clause-low : goal.returns-in-Some-clause-low
returns-in-Some-clause-low c =
    let P : Option (Bor (List ℕ)) → Type 0 = λ ns. IsCut (different ns (length c.args.self.lists.now)) c.args.low c.lower_bound.result in
    subst P (sym c.in-Some.is) c.lower_bound.ensures

pub returns-in-Some-clause-high : goal.returns-in-Some-clause-high
returns-in-Some-clause-high c =
    let P : Option (Bor (List ℕ)) → Type 0 = λ ns. IsCut (different ns (length c.args.self.lists.now)) (c.args.high + 1) c.upper_bound.result in
    subst P (sym c.in-Some.is) c.upper_bound.ensures

pub returns-in-None-clause-low : goal.returns-in-None-clause-low
returns-in-None-clause-low c =
    let P : Option (Bor (List ℕ)) → Type 0 = λ ns. IsCut (different ns (length c.args.self.lists.now)) c.args.low c.min.result in
    subst P (sym c.in-None.is) (IsCut-places (length c.args.self.lists.now) c.args.low c.min.result
    (omega (arith, c.min.ensures, c.len-count.ensures)))

pub returns-in-None-clause-high : goal.returns-in-None-clause-high
returns-in-None-clause-high c =
    let lists = c.args.self.lists.now in
    let fits : c.len-count.result < 2 ^ 64 = c.len-count.type_inv in
    let P : Option (Bor (List ℕ)) → Type 0 = λ ns. IsCut (different ns (length lists)) (c.args.high + 1) c.min-in-None.result in
    subst P (sym c.in-None.is) (IsCut-places (length lists) (c.args.high + 1) c.min-in-None.result
    (omega (arith, c.min-in-None.ensures, c.saturating_add.ensures, c.len-count.ensures, fits)))
