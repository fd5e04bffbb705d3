use Rattle.std.proofs.Common.{◌≡◌, ◌∙◌, arith, false, get_or, map, None, sym, true}
use Rattle.fts_pack.specs.column.OffsetArray.{number_at}
use Rattle.fts_pack.proofs.BitsLemmas.{set_inside}
use Rattle.fts_pack.proofs.CountsLemmas.{AreCounted-missing, AreCounted-more, number_at-clear, number_at-set, number_of_lane}
use Rattle.fts_pack.proofs.column.value_counts.count_present.Goals as goal
use Rattle.fts_pack.proofs.column.value_counts.count_present.Goals.{then-contains, else-contains}

pub bounds-lanes-doc : goal.bounds-lanes-doc
bounds-lanes-doc g c = omega (arith, set_inside c.args.present.now (get_or c.args.docs.now c.loop-doc.doc-index 0) (sym c.if-contains.ensures), c.requires.enough)

pub count_one-requires : goal.count_one-requires
count_one-requires g c =
    let doc = get_or c.args.docs.now c.loop-doc.doc-index 0 in
    let inside = set_inside c.args.present.now doc (sym c.if-contains.ensures) in
    let number : c.number.result ≡ get_or (map g.L.OffsetInt.value c.args.lanes.now) doc 0 =
    number_of_lane g.L.OffsetInt.value c.args.lanes.now doc _ _ (omega (arith, inside, c.requires.enough)) c.index-lanes-doc.is c.number.ensures in
    omega (arith, number, c.requires.within doc inside)

pub loop-doc-preserved : goal.loop-doc-preserved
loop-doc-preserved g c =
    let present = c.args.present.now in
    let lanes = c.args.lanes.now in
    let docs = c.args.docs.now in
    let index = c.loop-doc.doc-index in
    let doc = get_or docs index 0 in
    let numbers = map g.L.OffsetInt.value lanes in
    let number = number_at present numbers in
    elim c.if-contains.branch [
      | then-contains w ↦ (
          let set : get_or present doc false ≡ true = sym c.contains.ensures ∙ w.if-contains.true in
          let inside = set_inside present doc set in
          let is : w.number.result ≡ get_or numbers doc 0 =
          number_of_lane g.L.OffsetInt.value lanes doc _ _ (omega (arith, inside, c.requires.enough)) w.index-lanes-doc.is w.number.ensures in
          rw (w.counts-is, w.count_one.ensures, is) (AreCounted-more number docs c.args.counts.now c.loop-doc.counts index (get_or numbers doc 0)
          c.loop-doc-test.true (omega (arith, c.requires.within doc inside)) (number_at-set present numbers doc set) c.loop-doc.invariant))
      | else-contains w ↦ (
          let none : number doc ≡ None = number_at-clear present numbers doc (sym c.contains.ensures ∙ w.if-contains.false) in
          rw w.counts-is (AreCounted-missing number docs c.args.counts.now c.loop-doc.counts index c.loop-doc-test.true none c.loop-doc.invariant))
    ]
