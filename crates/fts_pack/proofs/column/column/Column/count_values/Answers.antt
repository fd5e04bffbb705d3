use Rattle.std.proofs.Common.{◌+◌, ◌-◌, ◌<◌, ◌≤◌, Some, None, length, ap, subst, arith}
use Rattle.std.proofs.Math.Facts.{Fits-lt-pow}
use Rattle.std.proofs.lemmas.List.{length-drop, take_rest}
use Rattle.fts_pack.specs.column.Column.{IsColumn, IsRangeOf, least_of}
use Rattle.fts_pack.specs.column.Counts.{is_value}
use Rattle.fts_pack.specs.column.OffsetArray.{in_lanes}
use Rattle.fts_pack.proofs.ColumnLemmas.{column_length, lane_each, none_in}
use Rattle.fts_pack.proofs.CountsLemmas.{counted_from_first, first_within, lane_within, stays, value_of_number}
use Rattle.fts_pack.proofs.column.column.Column.count_values.Goals as goal

pub count-requires-clause-enough : goal.count-requires-clause-enough
count-requires-clause-enough c =
    let column = c.self.inside in
    lane_each _ column.range column.present (in_lanes column.lanes) c.self.invariant.0

pub count-requires-clause-within : goal.count-requires-clause-within
count-requires-clause-within c = λ doc inside.
    let column = c.self.inside in
    let values = c.args.self.now in
    let counts = c.args.counts.now in
    let least = c.args.least in
    let first = c.in-Some.first in
    let h : IsColumn values column.range column.present (in_lanes column.lanes) =
    subst (λ v. IsColumn v column.range column.present (in_lanes column.lanes)) c.self.view_is c.self.invariant.0 in
    let range : IsRangeOf values (Some (first, c.in-Some.field-0-1)) = subst (IsRangeOf values) c.in-Some.is h.range_is in
    let here : (least ≤ first) × (first < least + length counts) = first_within values least (length counts) first c.requires range.0 in
    let lane = lane_within values column.range column.present (in_lanes column.lanes) h least (length counts) first doc
    (ap least_of c.in-Some.is) here c.requires (omega (arith, inside, column_length _ _ _ _ _ c.self.view_is c.self.invariant.0)) in
    omega (arith, lane, ap length (take_rest counts (first - least)), length-drop (first - least) counts)

pub returns-in-Some-clause-counted : goal.returns-in-Some-clause-counted
returns-in-Some-clause-counted c =
    let column = c.self.inside in
    let values = c.args.self.now in
    let counts = c.args.counts.now in
    let least = c.args.least in
    let first = c.in-Some.first in
    let h : IsColumn values column.range column.present (in_lanes column.lanes) =
    subst (λ v. IsColumn v column.range column.present (in_lanes column.lanes)) c.self.view_is c.self.invariant.0 in
    let range : IsRangeOf values (Some (first, c.in-Some.field-0-1)) = subst (IsRangeOf values) c.in-Some.is h.range_is in
    let here : (least ≤ first) × (first < least + length counts) = first_within values least (length counts) first c.requires range.0 in
    counted_from_first values column.present (in_lanes column.lanes) c.args.docs.now counts c.count.new.counts least (first - least) first
    (λ doc. value_of_number _ values column.range column.present (in_lanes column.lanes) first doc c.self.view_is c.self.invariant.0 (ap least_of c.in-Some.is))
    (omega (arith, here.0)) (omega (arith, here.0, here.1)) (λ k. Fits-lt-pow (c.type_inv.counts k)) c.count.ensures

pub returns-in_default-clause-counted : goal.returns-in_default-clause-counted
returns-in_default-clause-counted c = λ place inside.
    let column = c.self.inside in
    let range : IsRangeOf c.args.self.now column.range = subst (λ v. IsRangeOf v column.range) c.self.view_is c.self.invariant.0.range_is in
    let none : IsRangeOf c.args.self.now None = subst (λ r. IsRangeOf c.args.self.now r) c.in_default.is range in
    stays c.args.self.now c.args.docs.now (c.args.least + place) _ (Fits-lt-pow (c.type_inv.counts place))
    (λ doc. ap (is_value (c.args.least + place)) (none_in c.args.self.now doc none))
