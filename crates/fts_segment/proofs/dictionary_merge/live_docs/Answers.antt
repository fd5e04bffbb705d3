use Rattle.std.proofs.Common.{◌≡◌, ◌+◌, ◌++◌, ◌∷◌, [], All, take, drop, count_by, ap, sym, subst, ◌∙◌, arith}
use Rattle.std.proofs.lemmas.List.{take_all, take_more}
use Rattle.std.proofs.lemmas.List.Elements.{All-more}
use Rattle.fts_segment.specs.Sources.{SourceValue, HasBits, live_count}
use Rattle.fts_segment.proofs.SourceLemmas.{dropped, length-live, live_count-cons, live_count-push, live_in}
use Rattle.fts_segment.proofs.dictionary_merge.live_docs.Goals as goal

pub loop-source-preserved : goal.loop-source-preserved
loop-source-preserved c =
    let ss = c.args.sources.now in
    let i = c.loop-source.source-index in
    let s = c.source-item.result in
    let more : take (i + 1) ss ≡ take i ss ++ s ∷ [] =
    take_more ss i s c.loop-source-test.true ∙ ap (λ (t : SourceValue). take i ss ++ t ∷ []) (sym c.source-item.is) in
    let count : c.count_ones-docs.result ≡ live_in s = c.count_ones-docs.ensures ∙ ap (count_by (λ bit. bit)) c.live.ensures.live in
    record {
      counted = omega (arith, count, c.loop-source.invariant.counted, ap live_count more, live_count-push (take i ss) s);
      left = omega (
        arith,
        count,
        c.loop-source.invariant.left,
        ap live_count (dropped ss i s c.loop-source-test.true c.source-item.is),
        live_count-cons s
            (drop (i + 1) ss),
      );
      bits = All-more HasBits ss i s c.loop-source-test.true c.loop-source.invariant.bits (subst HasBits c.source-item.is c.live.ensures.bits);
    }

pub returns : goal.returns
returns c =
    let ss = c.args.sources.now in
    let all = take_all c.loop-source.source-index ss (omega (arith, c.loop-source-test.false)) in
    c.loop-source.invariant.counted ∙ ap live_count all ∙ sym (length-live ss (subst (All HasBits) all c.loop-source.invariant.bits))
