-- One block more, and all of them are the list.
use Rattle.std.proofs.Common.{[], ◌++◌, ◌∷◌, ◌<◌, ◌≤◌, List, ℕ, ap, ap₂, filter, get_or, length, take, sym, ◌∙◌, arith}
use Rattle.std.specs.List.{flat_map}
use Rattle.std.proofs.lemmas.List.{append_assoc, append-nil, take_all, take_more}
use Rattle.std.proofs.lemmas.List.Elements.{filter-append}
use Rattle.std.proofs.lemmas.Grind.{flat_map-append}
use Rattle.fts_pack.specs.ListRef.{listed}
use Rattle.fts_pack.specs.Documents.{blocks_of}
use Rattle.fts_pack.specs.SourceLaws.{blocks_joined}
use Rattle.fts_postings.specs.Sets.{has}
use Rattle.fts_collect.proofs.walk.push_list.Goals as goal

abbrev all : List (List ℕ) → List ℕ
all blocks = flat_map (λ block. block) blocks

pub loop-block-preserved : goal.loop-block-preserved
loop-block-preserved c =
    let p = has c.args.hits.now in
    let old = c.args.found.now.items in
    let blocks = blocks_of (listed c.args.list) in
    let i = c.loop-block.block in
    let inside : i < length blocks =
    omega (arith, c.loop-block-test.true, c.blocks-block-end.ensures, ap (λ ds. length (blocks_of ds)) c.source-source.ensures.documents) in
    let more = ap all (take_more blocks i [] inside) ∙ flat_map-append (λ block. block) (take i blocks) (get_or blocks i [] ∷ [])
    ∙ ap (λ ys. all (take i blocks) ++ ys) (append-nil (get_or blocks i [])) in
    record {
      list = c.open-len.ensures.same ∙ c.loop-block.invariant.list;
      found =
          c.in_ok-push_hits.ensures
          ∙ ap₂ (λ xs ys. xs ++ filter p ys) c.loop-block.invariant.found (c.open-len.ensures.documents ∙ ap (λ bs. get_or bs i []) c.loop-block.invariant.list)
          ∙ append_assoc old (filter p (all (take i blocks))) (filter p (get_or blocks i []))
          ∙ ap (λ ys. old ++ ys) (sym (ap (filter p) more ∙ filter-append p (all (take i blocks)) (get_or blocks i [])));
    }

pub returns : goal.returns
returns c =
    let blocks = blocks_of (listed c.args.list) in
    let whole : length blocks ≤ c.loop-block.block =
    omega (arith, c.loop-block-test.false, c.blocks-block-end.ensures, ap (λ ds. length (blocks_of ds)) c.source-source.ensures.documents) in
    c.loop-block.invariant.found ∙ ap (λ ys. c.args.found.now.items ++ filter (has c.args.hits.now) ys) (ap all (take_all c.loop-block.block blocks whole)
    ∙ blocks_joined (listed c.args.list))
