use Rattle.std.proofs.Common.{◌≡◌, ◌∙◌, ap, subst}
use Rattle.fts_pack.specs.column.BlockRanges.{AreEndsOf, in_blocks}
use Rattle.fts_pack.specs.column.Column.{IsColumn, least_of, offsets}
use Rattle.fts_pack.specs.column.OffsetArray.{AreLanesOf, in_lanes}
use Rattle.fts_pack.proofs.ColumnLemmas.{HaveOffsets-range, column_values, unwrap_least}
use Rattle.fts_pack.proofs.column.column.Column.of_values.Goals as goal

pub of_offsets-requires : goal.of_offsets-requires
of_offsets-requires c = HaveOffsets-range c.args.values.now c.range_of-range.result _ c.unwrap_or-least.result c.requires c.range_of-range.ensures.range
    c.unwrap_or-least.ensures c.bit_length-width.ensures.holds

pub of_values-requires : goal.of_values-requires
of_values-requires c = HaveOffsets-range c.args.values.now c.range_of-range.result _ c.unwrap_or-least.result c.requires c.range_of-range.ensures.range
    c.unwrap_or-least.ensures c.bit_length-width.ensures.holds

built : (c : goal.In_ok-blocks) → IsColumn c.args.values.now c.range_of-range.result c.in_ok-present.present (in_lanes c.in_ok-lanes.lanes)
built c =
    let values = c.args.values.now in
    let range = c.range_of-range.result in
    let least : c.unwrap_or-least.result.0 ≡ least_of range = ap (λ r. r.0) c.unwrap_or-least.ensures ∙ unwrap_least range in
    record {
      few = c.requires;
      range_is = c.range_of-range.ensures.range;
      range_fits = c.range_of-range.ensures.fits;
      present_is = c.in_ok-present.ensures;
      lanes_are = subst (λ x. AreLanesOf (offsets x values) (in_lanes c.in_ok-lanes.lanes)) least c.in_ok-lanes.ensures;
    }

pub returns : goal.returns
returns c =
    let h = built c in
    column_values c.args.values.now c.range_of-range.result c.in_ok-present.present (in_lanes c.in_ok-lanes.lanes) h.range_is h.present_is h.lanes_are

pub invariant_of-result : goal.invariant_of-result
invariant_of-result c =
    let least : c.unwrap_or-least.result.0 ≡ least_of c.range_of-range.result =
    ap (λ r. r.0) c.unwrap_or-least.ensures ∙ unwrap_least c.range_of-range.result in
    let blocks : AreEndsOf (least_of c.range_of-range.result) c.args.values.now (in_blocks c.in_ok-blocks.blocks) =
    subst (λ x. AreEndsOf x c.args.values.now (in_blocks c.in_ok-blocks.blocks)) least c.in_ok-blocks.ensures in
    rw (returns c) (built c, blocks)
