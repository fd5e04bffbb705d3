-- The range of a block is its offset range plus the least value.
use Rattle.std.proofs.Common.{◌+◌, Some, None, ap, sym, subst}
use Rattle.std.proofs.Math.Facts.{Fits-of_lt}
use Rattle.fts_pack.specs.column.BlockRanges.{AreEndsOf, block_of, in_blocks}
use Rattle.fts_pack.specs.column.Column.{IsRangeOf, least_of}
use Rattle.fts_pack.proofs.BlocksLemmas.{block_fits, block_of_none, block_told, told_none, told_range}
use Rattle.fts_pack.proofs.column.column.Column.block_range.Goals as goal

told : (c : goal.Then-first-last) →
    IsRangeOf (block_of c.args.block c.args.self.now) (Some (c.in_ok-least.least + c.at-first.result.0, c.in_ok-least.least + c.at-first.result.1))
told c =
    let column = c.self.inside in
    told_range c.in_ok-least.least (block_of c.args.block c.args.self.now) c.at-first.result
    (block_told c.args.self.now (least_of column.range) c.in_ok-least.least (in_blocks column.blocks) c.args.block c.at-first.result
    (subst (λ v. AreEndsOf (least_of c.self.inside.range) v (in_blocks c.self.inside.blocks)) c.self.view_is c.self.invariant.1)
    (ap least_of c.in_ok-least.was) c.at-first.ensures)
    c.if-first-last.true

pub returns-in_err-least : goal.returns-in_err-least
returns-in_err-least c =
    let column = c.self.inside in
    let range : IsRangeOf c.args.self.now column.range = subst (λ v. IsRangeOf v column.range) c.self.view_is c.self.invariant.0.range_is in
    let none : IsRangeOf c.args.self.now None = subst (λ r. IsRangeOf c.args.self.now r) c.in_err-least.was range in
    subst (λ r. IsRangeOf (block_of c.args.block c.args.self.now) r) (sym c.from_residual.ensures) (block_of_none c.args.self.now c.args.block none)

pub overflow_add-result : goal.overflow_add-result
overflow_add-result c =
    let column = c.self.inside in
    let range : IsRangeOf c.args.self.now column.range = subst (λ v. IsRangeOf v column.range) c.self.view_is c.self.invariant.0.range_is in
    let fits = block_fits c.args.self.now column.range _ _ c.args.block _ range c.self.invariant.0.range_fits c.in_ok-least.was (told c) in
    Fits-of_lt fits.0

pub overflow_add-result-then-first-last : goal.overflow_add-result-then-first-last
overflow_add-result-then-first-last c =
    let column = c.self.inside in
    let range : IsRangeOf c.args.self.now column.range = subst (λ v. IsRangeOf v column.range) c.self.view_is c.self.invariant.0.range_is in
    let fits = block_fits c.args.self.now column.range _ _ c.args.block _ range c.self.invariant.0.range_fits c.in_ok-least.was (told c) in
    Fits-of_lt fits.1

pub returns-then-first-last : goal.returns-then-first-last
returns-then-first-last c = told c

pub returns-else-first-last : goal.returns-else-first-last
returns-else-first-last c =
    let column = c.self.inside in
    told_none c.in_ok-least.least (block_of c.args.block c.args.self.now) c.at-first.result
    (block_told c.args.self.now (least_of column.range) c.in_ok-least.least (in_blocks column.blocks) c.args.block c.at-first.result
    (subst (λ v. AreEndsOf (least_of c.self.inside.range) v (in_blocks c.self.inside.blocks)) c.self.view_is c.self.invariant.1)
    (ap least_of c.in_ok-least.was) c.at-first.ensures)
    c.if-first-last.false
