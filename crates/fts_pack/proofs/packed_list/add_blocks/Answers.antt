use Rattle.std.proofs.Common.{◌≡◌, suc, ◌+◌, ◌∷◌, [], ◌<◌, length, drop, arith}
use Rattle.std.proofs.lemmas.List.{get_or_default}
use Rattle.std.proofs.Math.Facts.{Fits-lt-pow}
use Rattle.fts_pack.specs.Documents.{block_count, gaps}
use Rattle.fts_pack.specs.FourLanes.{words_in_lanes}
use Rattle.fts_pack.proofs.DocumentsLemmas.{Rises-from_increasing, Rises-block, block_sliced, block_count-div_ceil}
use Rattle.fts_pack.proofs.PackedListLemmas.{IsBuilt, IsBuilt-more, IsPackedList-built, kept_documents-built, extends_same, extends_on, nothing_built}
use Rattle.fts_pack.proofs.packed_list.add_blocks.Goals as goal

pub loop-block-init : goal.loop-block-init
loop-block-init c = record {
  built = nothing_built c.args.documents.now c.args.skips.now.items c.args.words.now.items;
  skips = extends_same c.args.skips.now.items;
  words = extends_same c.args.words.now.items;
}

pub add_skip-requires-clause-rises : goal.add_skip-requires-clause-rises
add_skip-requires-clause-rises c =
    let documents = c.args.documents.now in
    let block = c.loop-block.block in
    rw (block_sliced documents block c.min-end.result c.min-end.ensures, c.loop-block.invariant.built.next_is)
    (Rises-block documents block (Rises-from_increasing documents c.requires))

pub loop-block-preserved : goal.loop-block-preserved
loop-block-preserved c =
    let documents = c.args.documents.now in
    let block = c.loop-block.block in
    let added = rw (block_sliced documents block c.min-end.result c.min-end.ensures) at c.in_ok-skip.ensures.ok in
    let inside : block < block_count (length documents) =
    omega (arith, c.loop-block-test.true, c.div_ceil-blocks.ensures, block_count-div_ceil (length documents)) in
    let next : c.from-next.result + 1 ≡ suc c.in_ok-skip.skip.last = omega (arith, c.from-next.ensures) in
    let skips = extends_on c.args.skips.now.items c.loop-block.skips.items (c.in_ok-skip.skip ∷ []) c.push.new.self.items c.loop-block.invariant.skips
    c.in_ok-push.ensures.items in
    record {
      built = rw (next, skips.0) (IsBuilt-more documents block c.loop-block.next (drop (length c.args.skips.now.items) c.loop-block.skips.items)
          c.loop-block.words.items c.add_skip.new.words.items c.in_ok-skip.skip c.loop-block.invariant.built (Rises-from_increasing documents c.requires)
          inside added);
      skips = skips.1;
      words = (extends_on c.args.words.now.items c.loop-block.words.items (words_in_lanes c.in_ok-skip.skip.block.width (gaps c.loop-block.next _))
          c.add_skip.new.words.items c.loop-block.invariant.words added.block.words_are).1;
    }

pub returns-clause-ok : goal.returns-clause-ok
returns-clause-ok c =
    let documents = c.args.documents.now in
    let new = drop (length c.args.skips.now.items) c.loop-block.skips.items in
    let all : c.loop-block.block ≡ block_count (length documents) =
    omega (arith, c.loop-block-test.false, c.div_ceil-blocks.ensures, block_count-div_ceil (length documents)) in
    let built : IsBuilt documents (block_count (length documents)) c.loop-block.next new c.loop-block.words.items = rw (← all) c.loop-block.invariant.built in
    record {
      is = IsPackedList-built documents c.loop-block.next new c.loop-block.words.items built c.requires (omega arith) (λ k d inside.
          rw (get_or_default documents k d 0 inside) (Fits-lt-pow (c.type_inv.documents k)));
      documents_are = kept_documents-built documents c.loop-block.next new c.loop-block.words.items built;
    }
