use Rattle.std.proofs.Common.{length, ap, sym, ◌∙◌}
use Rattle.fts_pack.proofs.BitsLemmas.{length-flags}
use Rattle.fts_pack.proofs.bits.bits.Bits.len.Goals as goal

pub returns : goal.returns
returns c = sym (ap length (sym c.self.view_is) ∙ length-flags _ _)
