-- A present value is the least plus its element.
use Rattle.std.proofs.Common.{◌≡◌, ◌+◌, ◌∙◌, Some, None, get_or, ap, sym, arith, subst}
use Rattle.std.proofs.Math.Facts.{Fits-of_lt}
use Rattle.fts_pack.specs.column.Column.{least_of, IsColumn, IsRangeOf}
use Rattle.fts_pack.specs.column.OffsetArray.{in_lanes}
use Rattle.fts_pack.proofs.BitsLemmas.{set_inside}
use Rattle.fts_pack.proofs.ColumnLemmas.{column_length, column_present, lane_inside, value_there, value_missing, value_fits}
use Rattle.fts_pack.proofs.column.column.Column.get.Goals as goal

pub at-requires : goal.at-requires
at-requires c =
    let column = c.self.inside in
    let size = column_length _ _ _ _ _ c.self.view_is c.self.invariant.0 in
    lane_inside c.args.self.now column.range column.present (in_lanes column.lanes)
    (subst (λ v. IsColumn v c.self.inside.range c.self.inside.present (in_lanes c.self.inside.lanes)) c.self.view_is c.self.invariant.0) c.args.doc (omega (arith, size, set_inside column.present c.args.doc (sym c.if-contains.ensures)))

there : (c : goal.After-at) → get_or c.args.self.now c.args.doc None ≡ Some (c.in_ok-least.least + c.at.result)
there c =
    let column = c.self.inside in
    value_there c.args.self.now column.range column.present (in_lanes column.lanes) c.in_ok-least.least c.args.doc
    (subst (λ v. IsColumn v c.self.inside.range c.self.inside.present (in_lanes c.self.inside.lanes)) c.self.view_is c.self.invariant.0)
    (ap least_of c.in_ok-least.was) (sym c.if-contains.ensures) ∙ ap (λ n. Some (c.in_ok-least.least + n)) (sym c.at.ensures)

pub overflow_add-result : goal.overflow_add-result
overflow_add-result c =
    let column = c.self.inside in
    let size = column_length _ _ _ _ _ c.self.view_is c.self.invariant.0 in
    let range : IsRangeOf c.args.self.now column.range = subst (λ v. IsRangeOf v column.range) c.self.view_is c.self.invariant.0.range_is in
    Fits-of_lt (value_fits c.args.self.now column.range c.args.doc _ _ _ range c.self.invariant.0.range_fits c.in_ok-least.was
    (omega (arith, size, set_inside column.present c.args.doc (sym c.if-contains.ensures))) (there c))

pub returns-then-contains : goal.returns-then-contains
returns-then-contains c = sym (there c)

pub returns-else-contains : goal.returns-else-contains
returns-else-contains c =
    let column = c.self.inside in
    sym (value_missing c.args.self.now column.present c.args.doc
    (column_present _ _ _ _ _ c.self.view_is c.self.invariant.0) (sym c.if-contains.ensures))
