use Rattle.std.proofs.Common.{◌≡◌, ◌<◌, ◌^◌, ◌-◌, ◌∙◌, ap, ap₂, arith, length, rules, subst, sym, take}
use Rattle.fts_pack.specs.bits.Digits.{words_of}
use Rattle.fts_pack.specs.column.Column.{IsRangeOf, least_of, offsets, spread_of}
use Rattle.fts_pack.specs.column.OffsetArray.{in_lanes}
use Rattle.fts_pack.proofs.ColumnLemmas.{IsWidthOf-spread, column_length, column_offsets, lane_each, offsets_fit, range_unique, unwrap_spread}
use Rattle.fts_pack.proofs.column.column.Column.packed.Goals as goal

pub packed_offsets-requires-clause-narrow : goal.packed_offsets-requires-clause-narrow
packed_offsets-requires-clause-narrow c = c.bit_length-width.ensures.within

pub packed_offsets-requires-clause-few : goal.packed_offsets-requires-clause-few
packed_offsets-requires-clause-few c =
    omega (arith, c.len.ensures, ap length c.self.view_is, c.self.invariant.0.few)

pub packed_offsets-requires-clause-enough : goal.packed_offsets-requires-clause-enough
packed_offsets-requires-clause-enough c =
    let column = c.self.inside in
    let size = column_length _ _ _ _ _ c.self.view_is c.self.invariant.0 in
    omega (arith, c.len.ensures, size, lane_each _ column.range column.present (in_lanes column.lanes) c.self.invariant.0)

pub packed_offsets-requires-clause-fits : goal.packed_offsets-requires-clause-fits
packed_offsets-requires-clause-fits c =
    let column = c.self.inside in
    let values = c.args.self.now in
    let spread : c.unwrap_or-least.result.1 - c.unwrap_or-least.result.0 ≡ spread_of column.range =
    ap (λ r. r.1 - r.0) c.unwrap_or-least.ensures ∙ unwrap_spread column.range in
    rw (column_offsets _ values column.range column.present (in_lanes column.lanes) c.self.view_is c.self.invariant.0 c.len.result c.len.ensures)
    (offsets_fit values column.range c.bit_length-width.result (subst (λ v. IsRangeOf v column.range) c.self.view_is c.self.invariant.0.range_is)
    (rw spread at c.bit_length-width.ensures.holds))

pub returns-in-Ok-clause-width : goal.returns-in-Ok-clause-width
returns-in-Ok-clause-width c =
    let column = c.self.inside in
    let spread : c.unwrap_or-least.result.1 - c.unwrap_or-least.result.0 ≡ spread_of column.range =
    ap (λ r. r.1 - r.0) c.unwrap_or-least.ensures ∙ unwrap_spread column.range in
    IsWidthOf-spread c.args.self.now column.range c.bit_length-width.result
    (subst (λ v. IsRangeOf v column.range) c.self.view_is c.self.invariant.0.range_is) (rw spread at c.bit_length-width.ensures.holds)
    (λ other lt. c.bit_length-width.ensures.least other (rw spread lt))

pub returns-in-Ok-clause-words : goal.returns-in-Ok-clause-words
returns-in-Ok-clause-words c = λ range is.
    let column = c.self.inside in
    let values = c.args.self.now in
    let kept : IsRangeOf values column.range = subst (λ v. IsRangeOf v column.range) c.self.view_is c.self.invariant.0.range_is in
    c.in-Ok.ensures ∙ ap (words_of 64 c.bit_length-width.result)
    (column_offsets _ values column.range column.present (in_lanes column.lanes) c.self.view_is c.self.invariant.0 c.len.result c.len.ensures
    ∙ ap (λ r. offsets (least_of r) values) (range_unique values column.range range kept is))
