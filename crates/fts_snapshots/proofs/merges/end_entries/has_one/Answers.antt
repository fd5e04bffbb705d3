-- The rest of the proof of `merges::end_entries::has_one`.
use Rattle.std.proofs.Common.{◌≡◌, ◌∙◌, Some, true, false, nat_eq, slice_get, length, refl, sym, ap, Bool, arith}
use Rattle.std.specs.HashSet.{contains}
use Rattle.fts_model.specs.declared.operation.Stamped.{Stamped}
use Rattle.fts_model.specs.Documents.{DocumentValue}
use Rattle.fts_segment.specs.Segments.{SegmentValue}
use Rattle.fts_snapshots.proofs.LateBitLemmas.{any_here, any_next, any_end, stamp_at, document_at}
use Rattle.fts_snapshots.proofs.merges.end_entries.has_one.Goals as goal
use Rattle.fts_snapshots.proofs.merges.end_entries.has_one.Goals.{else-get-via-then-get+else-contains, else-get-via-else-get}

pub returns-then-contains : goal.returns-then-contains
returns-then-contains c =
    let entry = c.args.entry.now in
    let i = c.loop-document.document in
    let wanted : Stamped DocumentValue → Bool = λ d. contains nat_eq c.args.stamps.now d.stamp in
    let bit : slice_get entry.live i ≡ Some true = ap (λ bits. slice_get bits i) (sym c.live-live.ensures.live) ∙ c.get.ensures
    ∙ ap (λ b. Some b) c.if-get.true in
    let read = stamp_at c.segment-segment.result.now.documents i c.stamp.result c.stamp.ensures in
    let stored = ap (λ (s : SegmentValue). slice_get s.documents i) (sym c.segment-segment.ensures.segment) ∙ read.1 in
    let found : wanted read.0 ≡ true = ap (λ n. contains nat_eq c.args.stamps.now n) (sym read.2) ∙ sym c.contains.ensures ∙ c.if-contains.true in
    sym (sym c.loop-document.invariant ∙ any_here wanted entry.segment.documents entry.live i read.0 stored bit found)

pub loop-document-preserved : goal.loop-document-preserved
loop-document-preserved c =
    let entry = c.args.entry.now in
    let i = c.loop-document.document in
    let wanted : Stamped DocumentValue → Bool = λ d. contains nat_eq c.args.stamps.now d.stamp in
    let bit : slice_get entry.live i ≡ Some c.get.result = ap (λ bits. slice_get bits i) (sym c.live-live.ensures.live) ∙ c.get.ensures in
    elim c.else-get.branch [
      | else-get-via-then-get+else-contains w ↦
          let read = stamp_at c.segment-segment.result.now.documents i w.stamp.result w.stamp.ensures in
          let stored = ap (λ (s : SegmentValue). slice_get s.documents i) (sym c.segment-segment.ensures.segment) ∙ read.1 in
          let missed : wanted read.0 ≡ false = ap (λ n. contains nat_eq c.args.stamps.now n) (sym read.2) ∙ sym w.contains.ensures ∙ w.if-contains.false in
          any_next wanted entry.segment.documents entry.live i read.0 true stored (bit ∙ ap (λ b. Some b) w.if-get.true) missed ∙ c.loop-document.invariant
      | else-get-via-else-get w ↦
          let there = document_at entry.segment.documents i
          (omega (
            arith,
            c.loop-document-test.true,
            c.docs-document-end.ensures.len,
            ap (λ (s : SegmentValue). length s.documents)
                c.segment-segment.ensures.segment,
          )) in
          any_next wanted entry.segment.documents entry.live i there.0 false there.1 (bit ∙ ap (λ b. Some b) w.if-get.false) refl ∙ c.loop-document.invariant
    ]

pub returns : goal.returns
returns c =
    let entry = c.args.entry.now in
    let wanted : Stamped DocumentValue → Bool = λ d. contains nat_eq c.args.stamps.now d.stamp in
    sym (sym c.loop-document.invariant
    ∙ any_end wanted entry.segment.documents entry.live c.loop-document.document
    (omega (
      arith,
      c.loop-document-test.false,
      c.docs-document-end.ensures.len,
      ap (λ (s : SegmentValue). length s.documents)
          c.segment-segment.ensures.segment,
    )))
