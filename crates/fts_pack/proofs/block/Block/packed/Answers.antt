use Rattle.std.proofs.Common.{◌≡◌, ◌++◌, ◌∙◌, ap}
use Rattle.fts_pack.specs.FourLanes.{words_in_lanes}
use Rattle.fts_pack.proofs.BlockLemmas.{IsBlock-packed, block_again}
use Rattle.fts_pack.proofs.block.Block.packed.Goals as goal

words : (c : goal.In_ok-append) → c.append.new.words.items ≡ words_in_lanes c.width_of-width.result c.args.numbers.now
words c = c.in_ok-append.ensures.ok ∙ ap (λ xs. xs ++ words_in_lanes c.width_of-width.result c.args.numbers.now) c.in_ok-words.ensures.items

pub invariant_of-result : goal.invariant_of-result
invariant_of-result c =
    IsBlock-packed c.args.numbers.now _ _ c.requires c.width_of-width.ensures.within c.width_of-width.ensures.width (words c)

pub returns : goal.returns
returns c = block_again c.args.numbers.now _ _ c.requires c.width_of-width.ensures.width (words c)
