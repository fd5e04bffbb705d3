use Rattle.std.proofs.Common.{sym, ap, length, ◌∙◌}
use Rattle.fts_pack.proofs.NumbersLemmas.{length-numbers_kept}
use Rattle.fts_pack.proofs.packed_numbers.PackedNumbers.len.Goals as goal

pub returns : goal.returns
returns c = let n = c.self.inside in
    sym (length-numbers_kept n.count n.blocks.items n.words.items) ∙ ap length c.self.view_is
