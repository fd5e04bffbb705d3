use Rattle.std.proofs.Common.{◌≡◌, ◌*◌, ◌∙◌, get_or, rules, take, drop, ap}
use Rattle.fts_pack.specs.bits.Bits.{number_of}
use Rattle.fts_pack.proofs.BitsLemmas.{word_read}
use Rattle.fts_pack.proofs.bits.bits.Bits.word.Goals as goal

pub returns : goal.returns
returns c =
    let read : c.unwrap_or.result ≡ get_or c.deref.result.now c.args.index 0 = search rules in
    read ∙ ap (λ ws. get_or ws c.args.index 0) c.deref.ensures.value ∙ word_read c.self.inside.len c.args.index c.self.inside.words.items c.self.invariant.bits
    ∙ ap (λ v. number_of (take 64 (drop (64 * c.args.index) v))) c.self.view_is
