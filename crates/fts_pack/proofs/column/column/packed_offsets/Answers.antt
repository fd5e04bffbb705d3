use Rattle.std.proofs.Common.{◌≡◌, ◌<◌, ◌∙◌, bit_and, length, get_or, take, refl, sym, ap, arith}
use Rattle.std.proofs.lemmas.List.{get_or-take, length-take-le, take_all}
use Rattle.fts_pack.specs.column.OffsetArray.{in_lanes}
use Rattle.fts_pack.proofs.DigitsLemmas.{IsWritten-start, IsWritten-end, IsWritten-last}
use Rattle.fts_pack.proofs.PackingLemmas.{written_short, written_full}
use Rattle.fts_pack.proofs.column.column.packed_offsets.Goals as goal
use Rattle.fts_pack.proofs.column.column.packed_offsets.Goals.{then-filled-ge64+in_ok-push, else-filled-ge64, then-filled-gt0+in_ok-push-2, else-filled-gt0}

pub loop-doc-init : goal.loop-doc-init
loop-doc-init c = rw c.in_ok-words.ensures.items (IsWritten-start 64 c.args.width (omega arith))

pub loop-doc-preserved : goal.loop-doc-preserved
loop-doc-preserved c =
    let numbers = take c.args.count (in_lanes c.args.lanes.now) in
    let index = c.loop-doc.doc in
    let inside : index < length numbers = omega (arith, c.requires.enough, length-take-le c.args.count (in_lanes c.args.lanes.now) c.requires.enough) in
    let number : c.from.result ≡ get_or numbers index 0 =
    c.from.ensures ∙ c.at.ensures ∙ sym (get_or-take c.args.count (in_lanes c.args.lanes.now) index 0 c.loop-doc-test.true) in
    elim c.if-filled-ge64.branch [
      | then-filled-ge64+in_ok-push w ↦ written_full 64 c.args.width numbers c.loop-doc.words.items _ index _ _ _ _ _ _ _ c.loop-doc.invariant inside number
          c.requires.fits c.requires.narrow refl (ap (bit_and _) w.from-then-filled-ge64.ensures)
          (ap (λ v. v.items) w.words-is ∙ w.in_ok-push.ensures.items) w.pending-is w.filled-is w.if-filled-ge64.true
      | else-filled-ge64 w ↦ (rw w.words-is (written_short 64 c.args.width numbers _ index _ _ _ _ _ c.loop-doc.invariant inside number
          c.requires.fits c.requires.narrow w.pending-is w.filled-is w.if-filled-ge64.false))
    ]

pub returns : goal.returns
returns c =
    let numbers = take c.args.count (in_lanes c.args.lanes.now) in
    let all = take_all c.loop-doc.doc numbers (omega (arith, c.requires.enough, length-take-le c.args.count (in_lanes c.args.lanes.now) c.requires.enough)) in
    elim c.if-filled-gt0.branch [
      | then-filled-gt0+in_ok-push-2 w ↦ ap (λ v. v.items) w.words-is ∙ w.in_ok-push-2.ensures.items
          ∙ IsWritten-last 64 c.args.width numbers c.loop-doc.words.items _ _ (rw all at c.loop-doc.invariant) w.if-filled-gt0.true
      | else-filled-gt0 w ↦ ap (λ v. v.items) w.words-is ∙ IsWritten-end 64 c.args.width numbers _ _ _ (rw all at c.loop-doc.invariant)
          (omega (arith, w.if-filled-gt0.false))
    ]
