use Rattle.std.proofs.Common.{◌≡◌, ◌<◌, ◌++◌, Some, ap, ◌∙◌, arith, length}
use Rattle.std.specs.Prelude.{slice_get}
use Rattle.fts_segment.specs.Contents.{content_of}
use Rattle.fts_segment.specs.Segments.{SegmentValue}
use Rattle.fts_segment.proofs.SourceLemmas.{member_at, taken-step, taken-end}
use Rattle.fts_segment.proofs.segment_join.take_live.Goals as goal

pub loop-document-preserved : goal.loop-document-preserved
loop-document-preserved c =
    let s = c.args.source.now in
    let n = c.loop-document.document in
    let within : n < length s.segment.documents =
    omega (
      arith,
      c.loop-document-test.true,
      c.docs-document-end.ensures.len,
      ap (λ (t : SegmentValue). length t.documents)
          c.segment-segment.ensures.segment,
    ) in
    let at = member_at s.segment.documents n within in
    let bit = member_at s.live n (omega (arith, within, c.live-live.ensures.bits)) in
    let stored : slice_get c.segment-segment.result.now.documents n ≡ Some at.0 =
    ap (λ (t : SegmentValue). slice_get t.documents n) c.segment-segment.ensures.segment ∙ at.1 in
    let set : slice_get c.live-live.result.now n ≡ Some bit.0 = ap (λ bs. slice_get bs n) c.live-live.ensures.live ∙ bit.1 in
    taken-step s.segment.documents s.live n at.0 bit.0 c.loop-document.documents.items c.take_document.new.documents.items
    (c.args.documents.now.items ++ content_of s.segment s.live)
    at.1 bit.1 (c.in_ok-take_document.ensures at.0 bit.0 stored set) c.loop-document.invariant

pub returns-clause-documents : goal.returns-clause-documents
returns-clause-documents c =
    let s = c.args.source.now in
    taken-end s.segment.documents s.live c.loop-document.document c.loop-document.documents.items (c.args.documents.now.items ++ content_of s.segment s.live)
    (omega (
      arith,
      c.loop-document-test.false,
      c.docs-document-end.ensures.len,
      ap (λ (t : SegmentValue). length t.documents)
          c.segment-segment.ensures.segment,
    )) c.loop-document.invariant
