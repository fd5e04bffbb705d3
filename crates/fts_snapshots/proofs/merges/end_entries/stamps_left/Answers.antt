-- The rest of the proof of `merges::end_entries::stamps_left`.
use Rattle.std.proofs.Common.{◌≡◌, ◌<◌, ◌∙◌, None, Option, ℕ, true, false, not, nat_eq, get_or, slice_get, length, refl, sym, ap, arith}
use Rattle.std.specs.HashSet.{contains}
use Rattle.std.proofs.lemmas.List.{length-map}
use Rattle.fts_segment.specs.Segments.{SegmentValue}
use Rattle.fts_merge.specs.Merges.{MergedValue}
use Rattle.fts_snapshots.specs.Merges.{is_among, is_there}
use Rattle.fts_snapshots.specs.MergedSegments.{origins_of}
use Rattle.fts_snapshots.proofs.LateContentLemmas.{named_by}
use Rattle.fts_snapshots.proofs.LateBitLemmas.{stamps_skipped, stamps_added, stamps_all, gone_bits, no_origin, origin_at, gone_step, stamp_at, document_at}
use Rattle.fts_snapshots.proofs.merges.end_entries.stamps_left.Goals as goal
use Rattle.fts_snapshots.proofs.merges.end_entries.stamps_left.Goals.{then-is_none+in_ok-insert, else-is_none}

pub loop-document-preserved : goal.loop-document-preserved
loop-document-preserved c = λ q.
    let es = c.args.lookup.now in
    let m = c.args.segment.now in
    let i = c.loop-document.document in
    let documents = m.merged.segment.documents in
    let origins = c.origins-origins.ensures.origins ∙ ap (λ (m : MergedValue). m.origins) c.merged-merged.ensures.merged in
    let o = get_or c.origins-origins.result.now i no_origin in
    let p : Option ℕ = get_or c.args.places.now o.source None in
    let within : i < length m.merged.origins = omega (arith, c.loop-document-test.true, ap length origins) in
    let at = origin_at es m c.args.places.now i o p c.merged-merged.ensures.each c.requires within (ap (λ os. get_or os i no_origin) origins) refl in
    elim c.if-is_none.branch [
      | then-is_none+in_ok-insert w ↦
          let bit = gone_step es m i o p true at (c.is_none.ensures ∙ ap not w.if-is_none.true) in
          let read = stamp_at c.segment-documents.result.now.documents i w.stamp.result w.stamp.ensures in
          let same = c.segment-documents.ensures ∙ ap (λ (m : MergedValue). m.segment) c.merged-merged.ensures.merged in
          let stored = ap (λ (s : SegmentValue). slice_get s.documents i) (sym same) ∙ read.1 in
          ap (λ s. contains nat_eq s q) w.stamps-is
          ∙ stamps_added documents (gone_bits es m) i read.0 w.stamp.result q (contains nat_eq c.loop-document.stamps q) (contains nat_eq w.insert.new.self q)
          stored bit read.2
          (w.in_ok-insert.ensures.updates.0 q) (c.loop-document.invariant q)
      | else-is_none w ↦
          let bit = gone_step es m i o p false at (c.is_none.ensures ∙ ap not w.if-is_none.false) in
          let there = document_at documents i (omega (arith, within, c.merged-merged.ensures.each.merged.paired)) in
          ap (λ s. contains nat_eq s q) w.stamps-is ∙ c.loop-document.invariant q
          ∙ ap (λ ss. is_among ss q) (sym (stamps_skipped documents (gone_bits es m) i there.0 there.1 bit))
    ]

pub returns : goal.returns
returns c = λ q.
    let es = c.args.lookup.now in
    let m = c.args.segment.now in
    let i = c.loop-document.document in
    let paired = c.merged-merged.ensures.each.merged.paired in
    let origins = c.origins-origins.ensures.origins ∙ ap (λ (m : MergedValue). m.origins) c.merged-merged.ensures.merged in
    let end : i ≡ length m.merged.segment.documents = omega (arith, c.loop-document-test.false, c.loop-document.auto.document-end, ap length origins, paired) in
    let bits = length-map (origins_of m) (λ (o : ℕ × ℕ). not (is_there es o.0)) ∙ length-map m.merged.origins (named_by m.ids) ∙ paired in
    c.loop-document.invariant q ∙ ap (λ ss. is_among ss q) (stamps_all m.merged.segment.documents (gone_bits es m) i end bits)
