-- A block goes after the others, and all of them are the list.
use Rattle.std.proofs.Common.{[], ◌++◌, ◌∷◌, ◌<◌, ◌≤◌, List, ℕ, ap, ap₂, get_or, length, take, sym, ◌∙◌, arith}
use Rattle.std.specs.List.{flat_map}
use Rattle.std.proofs.lemmas.List.{append_assoc, append-nil, take_all, take_more}
use Rattle.std.proofs.lemmas.Grind.{flat_map-append}
use Rattle.fts_pack.specs.Documents.{blocks_of}
use Rattle.fts_pack.specs.ListSource.{documents_in}
use Rattle.fts_pack.specs.SourceLaws.{blocks_joined, length-blocks_of}
use Rattle.fts_cursor.proofs.list_union.push_blocks.Goals as goal

abbrev all : List (List ℕ) → List ℕ
all blocks = flat_map (λ block. block) blocks

pub loop-block-preserved : goal.loop-block-preserved
loop-block-preserved c =
    let old = c.args.documents.now.items in
    let blocks = blocks_of (documents_in c.args.source.now) in
    let i = c.loop-block.block in
    let inside : i < length blocks = omega (arith, c.loop-block-test.true, c.blocks-blocks.ensures) in
    let more = ap all (take_more blocks i [] inside) ∙ flat_map-append (λ block. block) (take i blocks) (get_or blocks i [] ∷ [])
    ∙ ap (λ ys. all (take i blocks) ++ ys) (append-nil (get_or blocks i [])) in
    record {
      list = c.open-count.ensures.same ∙ c.loop-block.invariant.list;
      documents =
          c.in_ok-extend_from_slice.ensures.items
          ∙ ap₂ (λ xs ys. xs ++ ys) c.loop-block.invariant.documents (c.open-count.ensures.documents ∙ ap (λ bs. get_or bs i []) c.loop-block.invariant.list)
          ∙ append_assoc old (all (take i blocks)) (get_or blocks i []) ∙ ap (λ ys. old ++ ys) (sym more);
      counted = omega (arith, c.open-count.ensures.counted, c.loop-block.invariant.counted);
    }

pub returns-clause-documents : goal.returns-clause-documents
returns-clause-documents c =
    let documents = documents_in c.args.source.now in
    let blocks = blocks_of documents in
    let whole : length blocks ≤ c.loop-block.block = omega (arith, c.loop-block-test.false, c.blocks-blocks.ensures) in
    c.loop-block.invariant.documents ∙ ap (λ ys. c.args.documents.now.items ++ ys) (ap all (take_all c.loop-block.block blocks whole) ∙ blocks_joined documents)

pub returns-clause-opened : goal.returns-clause-opened
returns-clause-opened c = c.blocks-blocks.ensures ∙ length-blocks_of (documents_in c.args.source.now)
