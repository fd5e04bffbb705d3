-- A word more is changed.
use Rattle.std.proofs.Common.{◌+◌, ◌*◌, ◌==◌, ◌∙◌, ap, get_or, rules}
use Rattle.std.specs.Int.{bit_at}
use Rattle.fts_pack.specs.bits.Changes.{changed}
use Rattle.fts_pack.proofs.BitsLemmas.{word_bit}
use Rattle.fts_pack.proofs.ChangeLemmas.{AreChangedTo-more}
use Rattle.fts_pack.proofs.bits.bits.Bits.change_last.Goals as goal

pub loop-place-preserved : goal.loop-place-preserved
loop-place-preserved c =
    let l = c.loop-place in
    AreChangedTo-more _ c.args.index c.args.words.now l.words l.place c.of.result l.invariant (search rules)
    (λ j low. c.of.ensures j low ∙ ap (changed c.args.change (bit_at (get_or l.words l.place 0) j == 1))
    (word_bit c.args.self.now (64 * (c.args.index + l.place)) c.word.result j c.word.ensures low))
