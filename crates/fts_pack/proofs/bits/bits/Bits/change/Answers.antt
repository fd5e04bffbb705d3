-- A word more is changed.
use Rattle.std.proofs.Common.{◌≡◌, ◌+◌, ◌*◌, ◌<◌, ◌==◌, ◌∙◌, ap, drop, get_or, length, take, arith, rules}
use Rattle.std.specs.Int.{bit_at}
use Rattle.std.proofs.lemmas.List.{get_or_read}
use Rattle.fts_pack.specs.bits.Bits.{number_of}
use Rattle.fts_pack.specs.bits.Changes.{changed}
use Rattle.fts_pack.proofs.BitsLemmas.{word_bit, word_read}
use Rattle.fts_pack.proofs.ChangeLemmas.{AreChangedTo-more}
use Rattle.fts_pack.proofs.bits.bits.Bits.change.Goals as goal

pub loop-place-preserved : goal.loop-place-preserved
loop-place-preserved c =
    let l = c.loop-place in
    let s = c.self.inside in
    let at = c.args.index + l.place in
    let inside : at < length s.words.items = omega arith in
    AreChangedTo-more _ c.args.index c.args.words.now l.words l.place c.of.result l.invariant (search rules)
    (λ j low. c.of.ensures j low ∙ ap (changed c.args.change (bit_at (get_or l.words l.place 0) j == 1))
    (word_bit c.args.self.now (64 * at) _ j (get_or_read s.words.items _ _ inside c.index.ensures 0 ∙ word_read s.len at s.words.items c.self.invariant.bits
    ∙ ap (λ v. number_of (take 64 (drop (64 * at) v))) c.self.view_is) low))
