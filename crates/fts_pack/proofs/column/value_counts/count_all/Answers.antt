use Rattle.std.proofs.Common.{◌≡◌, ◌∙◌, ap, arith, length, map, slice_get, get_or, sym, Some}
use Rattle.std.proofs.lemmas.List.{length-map}
use Rattle.std.proofs.lemmas.Option.{slice_get-get_or, slice_get_past}
use Rattle.fts_pack.proofs.CountsLemmas.{AreCounted-more, AreCounted-missing, number_of_lane}
use Rattle.fts_pack.proofs.column.value_counts.count_all.Goals as goal
use Rattle.fts_pack.proofs.column.value_counts.count_all.Goals.{in-Some, in_default}

pub count_one-requires : goal.count_one-requires
count_one-requires g c =
    let doc = get_or c.args.docs.now c.loop-doc.doc-index 0 in
    let found = c.in-Some.ensures.lookup in
    let number : c.number.result ≡ get_or (map g.L.OffsetInt.value c.args.lanes.now) doc 0 =
    number_of_lane g.L.OffsetInt.value c.args.lanes.now doc _ _ found.3.0 found.1 c.number.ensures in
    omega (arith, number, c.requires doc found.3.0, c.loop-doc.invariant.long)

pub loop-doc-preserved : goal.loop-doc-preserved
loop-doc-preserved g c =
    let lanes = c.args.lanes.now in
    let docs = c.args.docs.now in
    let index = c.loop-doc.doc-index in
    let doc = get_or docs index 0 in
    let numbers = map g.L.OffsetInt.value lanes in
    let size : length numbers ≡ length lanes = length-map lanes g.L.OffsetInt.value in
    elim c.match-get.branch [
      | in-Some w ↦ (
          let found = w.in-Some.ensures.lookup in
          let number : w.number.result ≡ get_or numbers doc 0 = number_of_lane g.L.OffsetInt.value lanes doc _ _ found.3.0 found.1 w.number.ensures in
          rw (w.counts-is, w.count_one.ensures) (AreCounted-more (slice_get numbers) docs c.args.counts.now c.loop-doc.counts index w.number.result
          c.loop-doc-test.true (omega (arith, number, c.requires doc found.3.0, c.loop-doc.invariant.long))
          (slice_get-get_or numbers doc 0 (omega (arith, size, found.3.0)) ∙ ap Some (sym number)) c.loop-doc.invariant))
      | in_default w ↦ rw w.counts-is (AreCounted-missing (slice_get numbers) docs c.args.counts.now c.loop-doc.counts index c.loop-doc-test.true
          (slice_get_past numbers doc (omega (arith, size, w.in_default.ensures.lookup.3))) c.loop-doc.invariant)
    ]
