use Rattle.std.proofs.Common.{◌∙◌, ap, arith, map, slice_get, sym, take}
use Rattle.fts_pack.specs.column.Column.{is_within}
use Rattle.fts_pack.specs.column.OffsetArray.{number_at}
use Rattle.fts_pack.proofs.CountsLemmas.{every_number}
use Rattle.fts_pack.proofs.IntervalLemmas.{IsLastWithin-same}
use Rattle.fts_pack.proofs.column.last_within.last_offset_within.Goals as goal

pub returns-then-is_all_set : goal.returns-then-is_all_set
returns-then-is_all_set g c =
    let value = g.L.OffsetInt.value in
    let present = c.args.present.now in
    let lanes = c.args.lanes.now in
    let len = c.len.result in
    let low = c.args.low in
    let high = c.args.high in
    IsLastWithin-same (slice_get (map value (take len lanes))) (number_at present (map value lanes)) low high low high c.args.docs.now c.last_of_all.result
    (λ doc. ap (is_within low high) (every_number value present lanes len doc c.len.ensures (sym c.is_all_set.ensures ∙ c.if-is_all_set.true)
    (omega (arith, c.requires, c.len.ensures))))
    c.last_of_all.ensures
