use Rattle.std.proofs.Common.{◌≡◌, ◌<◌, ◌≤◌, ◌*◌, [], All, length, get_or, take, drop, sym, subst, ap, ◌∙◌, arith}
use Rattle.std.proofs.lemmas.List.{take_all}
use Rattle.std.proofs.lemmas.List.Elements.{All-take, All-drop}
use Rattle.fts_pack.specs.ListRef.{listed}
use Rattle.fts_pack.specs.Documents.{block_count, blocks_of, block_at}
use Rattle.fts_pack.specs.SourceLaws.{length-blocks_of, get_or-blocks_of}
use Rattle.fts_segment.specs.Keywords.{with_ordinal}
use Rattle.fts_segment.proofs.OrdinalsLemmas.{length-with_ordinal, with_block}
use Rattle.fts_segment.proofs.keyword_index.set_ordinals_of.Goals as goal
use Rattle.fts_segment.proofs.keyword_index.set_ordinals_of.Goals.{After-open-count}

-- the block that was opened
opened_of : (c : After-open-count) → take c.open-count.result c.open-count.new.out ≡ block_at (listed c.args.list) c.loop-block.block
opened_of c =
    let list = listed c.args.list in
    let block = c.loop-block.block in
    let count : c.blocks-block-end.result ≡ block_count (length list) =
    c.blocks-block-end.ensures ∙ ap (λ ds. length (blocks_of ds)) c.source-source.ensures.documents ∙ length-blocks_of list in
    let within : block < block_count (length list) = omega (arith, count, c.loop-block-test.true) in
    c.open-count.ensures.documents ∙ ap (λ bs. get_or bs block []) c.loop-block.invariant.source ∙ get_or-blocks_of list block [] within

pub set_ordinals-requires : goal.set_ordinals-requires
set_ordinals-requires c =
    let list = listed c.args.list in
    let block = c.loop-block.block in
    let old = c.args.ordinals.now in
    let size : length c.loop-block.ordinals ≡ length old =
    ap length c.loop-block.invariant.set ∙ length-with_ordinal c.args.ordinal old (take (block * 128) list) in
    subst (λ n. All (λ doc. doc < n) (take c.open-count.result c.open-count.new.out)) (sym size)
    (subst (All (λ doc. doc < length old)) (sym (opened_of (goal.at.set_ordinals-requires c).After-open-count))
    (All-take (λ doc. doc < length old) 128 (drop (block * 128) list) (All-drop (λ doc. doc < length old) (block * 128) list c.requires)))

pub loop-block-preserved : goal.loop-block-preserved
loop-block-preserved c = record {
  source = c.open-count.ensures.same ∙ c.loop-block.invariant.source;
  set = with_block c.args.ordinal c.args.ordinals.now c.loop-block.ordinals c.set_ordinals.new.ordinals (listed c.args.list) c.loop-block.block
      c.loop-block.invariant.set
      (c.set_ordinals.ensures ∙ ap (with_ordinal c.args.ordinal c.loop-block.ordinals) (opened_of (goal.at.loop-block-preserved c).After-open-count));
}

pub returns : goal.returns
returns c =
    let list = listed c.args.list in
    let block = c.loop-block.block in
    let count : c.blocks-block-end.result ≡ block_count (length list) =
    c.blocks-block-end.ensures ∙ ap (λ ds. length (blocks_of ds)) c.source-source.ensures.documents ∙ length-blocks_of list in
    let beyond : length list ≤ block * 128 = omega (arith, count, c.loop-block-test.false) in
    c.loop-block.invariant.set ∙ ap (with_ordinal c.args.ordinal c.args.ordinals.now) (take_all (block * 128) list beyond)
