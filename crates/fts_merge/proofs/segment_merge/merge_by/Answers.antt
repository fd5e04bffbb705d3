use Rattle.std.proofs.Common.{◌∙◌, sym, subst}
use Rattle.fts_merge.specs.Merges.{IsMerged}
use Rattle.fts_merge.proofs.MergeLemmas.{merged_is}
use Rattle.fts_merge.proofs.OriginsLemmas.{IsMerged-merge_of}
use Rattle.fts_merge.proofs.segment_merge.merge_by.Goals as goal

pub new-requires : goal.new-requires
new-requires g c =
    let ss = c.args.sources.now in
    subst IsMerged (sym (merged_is c.in_ok-segment.segment c.in_ok-origins.origins.items ss c.in_ok-segment.ensures.ok c.in_ok-origins.ensures.origins))
    (IsMerged-merge_of ss c.in_ok-origins.ensures.bits)

pub returns-clause-ok : goal.returns-clause-ok
returns-clause-ok g c =
    c.new.ensures ∙ merged_is c.in_ok-segment.segment c.in_ok-origins.origins.items c.args.sources.now c.in_ok-segment.ensures.ok
    c.in_ok-origins.ensures.origins
