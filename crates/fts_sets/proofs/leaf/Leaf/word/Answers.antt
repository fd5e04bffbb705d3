-- A word of bits tells what the bits do.
use Rattle.std.proofs.Common.{◌∙◌, ◌+◌, ◌*◌, sym, ap}
use Rattle.fts_pack.proofs.BitsLemmas.{word_bit}
use Rattle.fts_sets.specs.declared.leaf.Leaf.{Leaf}
use Rattle.fts_sets.specs.Leaves.{leaf_has}
use Rattle.fts_sets.proofs.leaf.Leaf.word.Goals as goal

pub returns-in-Set : goal.returns-in-Set
returns-in-Set c j inside =
    word_bit c.in-Set.bits.now (64 * c.args.index) c.word.result j c.word.ensures inside
    ∙ sym (ap (λ (l : Leaf). leaf_has l (64 * c.args.index + j)) c.in-Set.is)
