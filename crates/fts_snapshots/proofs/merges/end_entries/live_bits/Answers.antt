-- The rest of the proof of `merges::end_entries::live_bits`.
use Rattle.std.proofs.Common.{◌≡◌, ◌<◌, ◌∙◌, None, Option, ℕ, true, false, get_or, replicate, length, refl, sym, ap, List, arith}
use Rattle.fts_merge.specs.declared.origin.Origin.{Origin}
use Rattle.fts_merge.specs.Merges.{MergedValue}
use Rattle.fts_snapshots.proofs.LateBitLemmas.{marked-none, marked-all, length-marked, bit_of, bits_mapped, no_origin, origin_at, bits_step}
use Rattle.fts_snapshots.proofs.merges.end_entries.live_bits.Goals as goal
use Rattle.fts_snapshots.proofs.merges.end_entries.live_bits.Goals.{then-is_live, else-is_live}

pub loop-document-init : goal.loop-document-init
loop-document-init c =
    let m = c.args.segment.now in
    let origins = c.origins-origins.ensures.origins ∙ ap (λ (m : MergedValue). m.origins) c.merged.ensures.merged in
    c.in_ok-live.ensures.ok ∙ ap (λ (os : List Origin). replicate (length os) false) origins
    ∙ sym (marked-none (bit_of c.args.lookup.now m.ids) m.merged.origins)

pub set-requires : goal.set-requires
set-requires c =
    let m = c.args.segment.now in
    let origins = c.origins-origins.ensures.origins ∙ ap (λ (m : MergedValue). m.origins) c.merged.ensures.merged in
    let f = bit_of c.args.lookup.now m.ids in
    omega (arith, c.loop-document-test.true, ap length origins, ap length c.loop-document.invariant, length-marked f m.merged.origins c.loop-document.document)

pub loop-document-preserved : goal.loop-document-preserved
loop-document-preserved c =
    let es = c.args.lookup.now in
    let m = c.args.segment.now in
    let i = c.loop-document.document in
    let origins = c.origins-origins.ensures.origins ∙ ap (λ (m : MergedValue). m.origins) c.merged.ensures.merged in
    let o = get_or c.origins-origins.result.now i no_origin in
    let p : Option ℕ = get_or c.args.places.now o.source None in
    let within : i < length m.merged.origins = omega (arith, c.loop-document-test.true, ap length origins) in
    let at = origin_at es m c.args.places.now i o p c.merged.ensures.each c.requires within (ap (λ os. get_or os i no_origin) origins) refl in
    elim c.if-is_live.branch [
      | then-is_live w ↦ w.live-is ∙ w.set.ensures ∙ bits_step es m i o p c.loop-document.live true at (sym w.if-is_live.true ∙ c.is_live.ensures)
          c.loop-document.invariant
      | else-is_live w ↦ w.live-is ∙ bits_step es m i o p c.loop-document.live false at (sym w.if-is_live.false ∙ c.is_live.ensures) c.loop-document.invariant
    ]

pub returns-clause-ok : goal.returns-clause-ok
returns-clause-ok c =
    let es = c.args.lookup.now in
    let m = c.args.segment.now in
    let i = c.loop-document.document in
    let origins = c.origins-origins.ensures.origins ∙ ap (λ (m : MergedValue). m.origins) c.merged.ensures.merged in
    let end : i ≡ length m.merged.origins = omega (arith, c.loop-document-test.false, c.loop-document.auto.document-end, ap length origins) in
    c.loop-document.invariant ∙ marked-all (bit_of es m.ids) m.merged.origins i end ∙ bits_mapped es m
