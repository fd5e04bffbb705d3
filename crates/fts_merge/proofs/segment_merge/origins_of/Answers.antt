use Rattle.std.proofs.Common.{◌++◌, ◌∙◌, ap, subst}
use Rattle.std.proofs.lemmas.List.Elements.{All-more}
use Rattle.fts_segment.specs.Sources.{HasBits}
use Rattle.fts_merge.specs.Merges.{origins_from, origins_in}
use Rattle.fts_merge.proofs.MergeLemmas.{origins-taken}
use Rattle.fts_merge.proofs.segment_merge.origins_of.Goals as goal

pub loop-number-preserved : goal.loop-number-preserved
loop-number-preserved c =
    let ss = c.args.sources.now in
    let i = c.loop-number.number in
    let s = c.index-sources-number.result in
    record {
      told = origins-taken c.push_origins.new.origins.items c.loop-number.origins.items ss i s (origins_from 0 ss) c.loop-number-test.true
          c.index-sources-number.is
          (c.in_ok-push_origins.ensures ∙ ap (λ bits. c.loop-number.origins.items ++ origins_in i bits) c.live.ensures.live) c.loop-number.invariant.told;
      bits = All-more HasBits ss i s c.loop-number-test.true c.loop-number.invariant.bits (subst HasBits c.index-sources-number.is c.live.ensures.bits);
    }
