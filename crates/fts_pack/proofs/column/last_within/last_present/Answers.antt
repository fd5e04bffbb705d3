use Rattle.std.proofs.Common.{◌≡◌, ◌-◌, ◌∙◌, ap, arith, false, get_or, map, sym, true}
use Rattle.fts_pack.specs.column.Column.{is_within}
use Rattle.fts_pack.specs.column.OffsetArray.{number_at}
use Rattle.fts_pack.proofs.BitsLemmas.{set_inside}
use Rattle.fts_pack.proofs.CountsLemmas.{number_at-clear, number_at-set, number_of_lane}
use Rattle.fts_pack.proofs.IntervalLemmas.{NoneWithin-before}
use Rattle.fts_pack.proofs.column.last_within.last_present.Goals as goal
use Rattle.fts_pack.proofs.column.last_within.last_present.Goals.{else-contains-via-then-contains+else-is_between, else-contains-via-else-contains}

pub bounds-lanes-doc : goal.bounds-lanes-doc
bounds-lanes-doc g c = omega (arith, set_inside c.args.present.now (get_or c.args.docs.now (c.loop-place.place - 1) 0) (sym c.if-contains.ensures), c.requires)

pub loop-place-preserved : goal.loop-place-preserved
loop-place-preserved g c =
    let present = c.args.present.now in
    let lanes = c.args.lanes.now in
    let docs = c.args.docs.now in
    let doc = get_or docs (c.loop-place.place - 1) 0 in
    let numbers = map g.L.OffsetInt.value lanes in
    let number = number_at present numbers in
    let test = is_within c.args.low c.args.high in
    let out : test (number doc) ≡ false = elim c.else-contains.branch [
      | else-contains-via-then-contains+else-is_between w ↦ (
          let set : get_or present doc false ≡ true = sym c.contains.ensures ∙ w.if-contains.true in
          let inside = set_inside present doc set in
          let is : w.number.result ≡ get_or numbers doc 0 =
          number_of_lane g.L.OffsetInt.value lanes doc _ _ (omega (arith, inside, c.requires)) w.index-lanes-doc.is w.number.ensures in
          rw (number_at-set present numbers doc set, ← is, ← w.is_between.ensures) w.if-is_between.false)
      | else-contains-via-else-contains w ↦ ap test (number_at-clear present numbers doc (sym c.contains.ensures ∙ w.if-contains.false))
    ] in
    NoneWithin-before number c.args.low c.args.high docs c.loop-place.place c.loop-place-test.true c.loop-place.invariant out
