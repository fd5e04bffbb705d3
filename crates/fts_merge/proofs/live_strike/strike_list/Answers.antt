use Rattle.std.proofs.Common.{◌≡◌, ◌<◌, ◌≤◌, ◌*◌, ◌+◌, ℕ, All, [], ap, sym, ◌∙◌, arith, length, take, drop, subst, get_or}
use Rattle.std.specs.List.{fold}
use Rattle.std.proofs.lemmas.List.{take_all}
use Rattle.std.proofs.lemmas.List.Sums.{fold-append}
use Rattle.std.proofs.lemmas.List.Elements.{All-take, All-drop}
use Rattle.fts_pack.specs.ListRef.{listed}
use Rattle.fts_pack.specs.Documents.{block_at, blocks_of, block_count}
use Rattle.fts_pack.specs.SourceLaws.{length-blocks_of, get_or-blocks_of}
use Rattle.fts_merge.specs.Internals.Deletes.{cleared}
use Rattle.fts_merge.proofs.DeletesLemmas.{length-cleared_all}
use Rattle.fts_merge.proofs.live_strike.strike_list.Goals as goal
use Rattle.fts_pack.proofs.DocumentsLemmas.{take_block}

pub strike_documents-requires-clause-within : goal.strike_documents-requires-clause-within
strike_documents-requires-clause-within c =
    let ns = listed c.args.list in
    let block = c.loop-block.block in
    let P : ℕ → Type 0 = λ n. n < length c.args.segment.now.documents in
    let within : block < block_count (length ns) =
    omega (
      arith,
      c.blocks-block-end.ensures,
      length-blocks_of ns,
      ap length c.loop-block.invariant.blocks,
      ap (λ xs. length (blocks_of xs))
          c.source-source.ensures.documents,
    ) in
    let opened : take c.open-count.result c.open-count.new.out ≡ block_at ns block =
    c.open-count.ensures.documents ∙ ap (λ bs. get_or bs block []) c.loop-block.invariant.blocks ∙ get_or-blocks_of ns block [] within in
    subst (All P) (sym opened) (All-take P 128 (drop (block * 128) ns) (All-drop P (block * 128) ns c.requires.within))

pub loop-block-preserved : goal.loop-block-preserved
loop-block-preserved c =
    let ns = listed c.args.list in
    let block = c.loop-block.block in
    let f = cleared c.args.segment.now.documents c.args.stamp in
    let within : block < block_count (length ns) =
    omega (
      arith,
      c.blocks-block-end.ensures,
      length-blocks_of ns,
      ap length c.loop-block.invariant.blocks,
      ap (λ xs. length (blocks_of xs))
          c.source-source.ensures.documents,
    ) in
    let opened : take c.open-count.result c.open-count.new.out ≡ block_at ns block =
    c.open-count.ensures.documents ∙ ap (λ bs. get_or bs block []) c.loop-block.invariant.blocks ∙ get_or-blocks_of ns block [] within in
    let struck = c.strike_documents.ensures ∙ ap (fold f c.loop-block.live) opened ∙ ap (λ bs. fold f bs (block_at ns block)) c.loop-block.invariant.struck
    ∙ sym (fold-append f c.args.live.now (take (block * 128) ns) (block_at ns block)) ∙ ap (fold f c.args.live.now) (sym (take_block ns block)) in
    record {
      bits = omega (
        arith,
        ap length struck,
        length-cleared_all c.args.segment.now.documents c.args.stamp c.args.live.now (take ((block + 1) * 128) ns),
        c.requires.bits,
      );
      blocks = c.open-count.ensures.same ∙ c.loop-block.invariant.blocks;
      struck = struck;
    }

pub returns : goal.returns
returns c =
    let ns = listed c.args.list in
    let all : length ns ≤ c.loop-block.block * 128 =
    omega (arith, c.blocks-block-end.ensures, length-blocks_of ns, ap (λ xs. length (blocks_of xs)) c.source-source.ensures.documents) in
    c.loop-block.invariant.struck ∙ ap (fold (cleared c.args.segment.now.documents c.args.stamp) c.args.live.now) (take_all (c.loop-block.block * 128) ns all)
