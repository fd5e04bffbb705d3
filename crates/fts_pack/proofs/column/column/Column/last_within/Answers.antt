use Rattle.std.proofs.Common.{◌-◌, ◌∙◌, None, get_or, ap, subst, sym, arith}
use Rattle.fts_pack.specs.column.Column.{is_within, least_of}
use Rattle.fts_pack.specs.column.OffsetArray.{in_lanes, number_at}
use Rattle.fts_pack.specs.column.Interval.{IsLastWithin}
use Rattle.fts_pack.proofs.ColumnLemmas.{lane_each}
use Rattle.fts_pack.proofs.CountsLemmas.{value_of_number}
use Rattle.fts_pack.proofs.IntervalLemmas.{IsLastWithin-same, is_within-above}
use Rattle.fts_pack.proofs.column.column.Column.last_within.Goals as goal

pub last_within-requires : goal.last_within-requires
last_within-requires c =
    let column = c.self.inside in
    lane_each _ column.range column.present (in_lanes column.lanes) c.self.invariant.0

told : (c : goal.After-last_within) → IsLastWithin (λ doc. get_or c.args.self.now doc None) c.args.low c.args.high c.args.docs.now c.last_within.result
told c =
    let column = c.self.inside in
    let values = c.args.self.now in
    let docs = c.args.docs.now in
    let lanes = in_lanes column.lanes in
    let least = c.in_ok-least.least in
    let low = c.args.low in
    let high = c.args.high in
    let number = number_at column.present lanes in
    IsLastWithin-same number (λ doc. get_or values doc None) (low - least) (high - least) low high docs c.last_within.result
    (λ doc. is_within-above (number doc) least low high (omega (arith, c.if-high-least.false)) ∙ ap (is_within low high)
    (sym (value_of_number _ values column.range column.present lanes least doc c.self.view_is c.self.invariant.0 (ap least_of c.in_ok-least.was))))
    (subst (λ above. IsLastWithin number above (high - least) docs c.last_within.result) c.saturating_sub-above.ensures c.last_within.ensures)

pub returns : goal.returns
returns c = let h = told c in record { some = h.some; behind = h.behind; none = h.none }
