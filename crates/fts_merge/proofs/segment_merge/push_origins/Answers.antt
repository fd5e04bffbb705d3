use Rattle.std.proofs.Common.{◌++◌, ◌∙◌, append-nil, ap, arith, sym}
use Rattle.std.proofs.lemmas.List.{drop_all}
use Rattle.fts_merge.specs.Merges.{origins_in}
use Rattle.fts_merge.proofs.MergeLemmas.{origins_behind, origins-told}
use Rattle.fts_merge.proofs.segment_merge.push_origins.Goals as goal

pub loop-document-preserved : goal.loop-document-preserved
loop-document-preserved c =
    origins-told c.loop-document.origins.items c.push_origin.new.origins.items c.args.number c.loop-document.document c.get.result c.args.live.now
    (c.args.origins.now.items ++ origins_in c.args.number c.args.live.now) c.get.ensures c.in_ok-push_origin.ensures c.loop-document.invariant

pub returns : goal.returns
returns c =
    let n = c.loop-document.document in
    sym (append-nil c.loop-document.origins.items)
    ∙ ap (λ bits. c.loop-document.origins.items ++ origins_behind c.args.number n bits)
    (sym (drop_all n c.args.live.now (omega (arith, c.loop-document-test.false, c.len-document-end.ensures))))
    ∙ c.loop-document.invariant
