use Rattle.std.proofs.Common.{◌≡◌, ◌-◌, ◌∙◌, ap, arith, length, map, slice_get, get_or, sym, Some}
use Rattle.std.proofs.lemmas.List.{length-map}
use Rattle.std.proofs.lemmas.Option.{slice_get-get_or, slice_get_past}
use Rattle.fts_pack.specs.column.Column.{is_within}
use Rattle.fts_pack.proofs.CountsLemmas.{number_of_lane}
use Rattle.fts_pack.proofs.IntervalLemmas.{NoneWithin-before}
use Rattle.fts_pack.proofs.column.last_within.last_of_all.Goals as goal

pub loop-place-preserved-else-is_between : goal.loop-place-preserved-else-is_between
loop-place-preserved-else-is_between g c =
    let lanes = c.args.lanes.now in
    let docs = c.args.docs.now in
    let doc = get_or docs (c.loop-place.place - 1) 0 in
    let numbers = map g.L.OffsetInt.value lanes in
    let found = c.in-Some.ensures.lookup in
    let size : length numbers ≡ length lanes = length-map lanes g.L.OffsetInt.value in
    let number : c.number.result ≡ get_or numbers doc 0 = number_of_lane g.L.OffsetInt.value lanes doc _ _ found.3.0 found.1 c.number.ensures in
    let there : slice_get numbers doc ≡ Some c.number.result = slice_get-get_or numbers doc 0 (omega (arith, size, found.3.0)) ∙ ap Some (sym number) in
    NoneWithin-before (slice_get numbers) c.args.low c.args.high docs c.loop-place.place c.loop-place-test.true c.loop-place.invariant
    (rw (there, ← c.is_between.ensures) c.if-is_between.false)

pub loop-place-preserved : goal.loop-place-preserved
loop-place-preserved g c =
    let lanes = c.args.lanes.now in
    let docs = c.args.docs.now in
    let numbers = map g.L.OffsetInt.value lanes in
    NoneWithin-before (slice_get numbers) c.args.low c.args.high docs c.loop-place.place c.loop-place-test.true c.loop-place.invariant
    (ap (is_within c.args.low c.args.high) (slice_get_past numbers (get_or docs (c.loop-place.place - 1) 0)
    (omega (arith, length-map lanes g.L.OffsetInt.value, c.in_default.ensures.lookup.3))))
