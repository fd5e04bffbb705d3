use Rattle.std.proofs.Common.{ap, ◌∙◌}
use Rattle.fts_pack.specs.bits.Digits.{words_of}
use Rattle.fts_pack.specs.bits.Bits.{marks}
use Rattle.fts_pack.proofs.BitsLemmas.{words-from_flags}
use Rattle.fts_pack.proofs.bits.bits.Bits.words.Goals as goal

pub returns : goal.returns
returns c =
    c.deref.ensures.value ∙ words-from_flags _ _ c.self.invariant.bits ∙ ap (λ v. words_of 64 1 (marks v)) c.self.view_is
