use Rattle.std.proofs.Common.{◌≡◌, ◌<◌, ◌+◌, ◌++◌, ◌^◌, ◌≤◌, ◌*◌, [], All, length, get_or, take, drop, map, sym, subst, ap, ◌∙◌, arith}
use Rattle.std.proofs.lemmas.List.{take_all}
use Rattle.std.proofs.lemmas.List.Elements.{All-take, All-drop}
use Rattle.fts_pack.specs.ListRef.{listed}
use Rattle.fts_pack.specs.Documents.{block_count, blocks_of, block_at}
use Rattle.fts_pack.specs.SourceLaws.{length-blocks_of, get_or-blocks_of}
use Rattle.fts_segment.proofs.MovingLemmas.{shifted-block}
use Rattle.fts_segment.proofs.copy_postings.copy_shifted.Goals as goal

pub push_shifted-requires : goal.push_shifted-requires
push_shifted-requires c =
    let list = listed c.args.list in
    let block = c.loop-block.block in
    let count : c.blocks-block-end.result ≡ block_count (length list) =
    c.blocks-block-end.ensures ∙ ap (λ ds. length (blocks_of ds)) c.source-source.ensures.documents ∙ length-blocks_of list in
    let within : block < block_count (length list) = omega (arith, count, c.loop-block-test.true) in
    let opened : take c.open-count.result c.open-count.new.out ≡ block_at list block =
    c.open-count.ensures.documents ∙ ap (λ bs. get_or bs block []) c.loop-block.invariant.source ∙ get_or-blocks_of list block [] within in
    subst (All (λ doc. c.args.first + doc < 2 ^ 32)) (sym opened) (All-take (λ doc. c.args.first + doc < 2 ^ 32) 128 (drop (block * 128) list)
    (All-drop (λ doc. c.args.first + doc < 2 ^ 32) (block * 128) list c.requires))

pub loop-block-preserved : goal.loop-block-preserved
loop-block-preserved c =
    let list = listed c.args.list in
    let block = c.loop-block.block in
    let count : c.blocks-block-end.result ≡ block_count (length list) =
    c.blocks-block-end.ensures ∙ ap (λ ds. length (blocks_of ds)) c.source-source.ensures.documents ∙ length-blocks_of list in
    let within : block < block_count (length list) = omega (arith, count, c.loop-block-test.true) in
    let opened : take c.open-count.result c.open-count.new.out ≡ block_at list block =
    c.open-count.ensures.documents ∙ ap (λ bs. get_or bs block []) c.loop-block.invariant.source ∙ get_or-blocks_of list block [] within in
    record {
      source = c.open-count.ensures.same ∙ c.loop-block.invariant.source;
      docs = shifted-block (λ doc. c.args.first + doc) list block c.args.docs.now.items c.loop-block.docs.items c.push_shifted.new.docs.items
          c.loop-block.invariant.docs
          (c.in_ok-push_shifted.ensures ∙ ap (λ ds. c.loop-block.docs.items ++ map (λ doc. c.args.first + doc) ds) opened);
    }

pub returns : goal.returns
returns c =
    let list = listed c.args.list in
    let block = c.loop-block.block in
    let count : c.blocks-block-end.result ≡ block_count (length list) =
    c.blocks-block-end.ensures ∙ ap (λ ds. length (blocks_of ds)) c.source-source.ensures.documents ∙ length-blocks_of list in
    let beyond : length list ≤ block * 128 = omega (arith, count, c.loop-block-test.false) in
    c.loop-block.invariant.docs ∙ ap (λ ds. c.args.docs.now.items ++ map (λ doc. c.args.first + doc) ds) (take_all (block * 128) list beyond)
