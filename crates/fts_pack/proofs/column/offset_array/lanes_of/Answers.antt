use Rattle.std.proofs.Common.{◌≡◌, ◌∙◌, arith, length, get_or, sym}
use Rattle.fts_pack.specs.column.Column.{offsets}
use Rattle.fts_pack.proofs.ColumnLemmas.{length-offsets, offset_at}
use Rattle.fts_pack.proofs.LanesLemmas.{fits_lane, lanes_filled, lanes_more}
use Rattle.fts_pack.proofs.column.offset_array.lanes_of.Goals as goal

pub of-requires : goal.of-requires
of-requires g c =
    let numbers = offsets c.args.least c.args.values.now in
    let index = c.loop-value.value-index in
    let number : c.offset.result ≡ get_or numbers index 0 = c.offset.ensures ∙ sym (offset_at c.args.least index 0 c.args.values.now c.loop-value-test.true) in
    let small = c.requires.offsets.fits index 0 (omega (arith, c.loop-value-test.true, length-offsets c.args.least c.args.values.now)) in
    fits_lane c.offset.result c.args.width g.L.OffsetInt.bits (omega (arith, number, small)) c.offset.type_inv c.requires.wide

pub loop-value-preserved : goal.loop-value-preserved
loop-value-preserved g c =
    let numbers = offsets c.args.least c.args.values.now in
    let index = c.loop-value.value-index in
    rw c.in_ok-push.ensures.items (lanes_more g.L.OffsetInt.value numbers c.loop-value.lanes.items c.of.result index c.loop-value.invariant
    (omega (arith, c.loop-value-test.true, length-offsets c.args.least c.args.values.now))
    (c.of.ensures ∙ c.offset.ensures ∙ sym (offset_at c.args.least index 0 c.args.values.now c.loop-value-test.true)))

pub returns : goal.returns
returns g c =
    let values = c.args.values.now in
    let numbers = offsets c.args.least values in
    let size : length numbers ≡ c.loop-value.value-index = omega (arith, length-offsets c.args.least values) in
    rw c.in_ok-resize.ensures.items (lanes_filled g.L.OffsetInt.value numbers c.loop-value.lanes.items c.of-2.result c.loop-value.lanes.len c.lane_count-count.result
    c.loop-value.value-index c.loop-value.invariant size c.loop-value.lanes.ok.0 (omega (arith, size, length-offsets c.args.least values))
    c.lane_count-count.ensures.whole)
