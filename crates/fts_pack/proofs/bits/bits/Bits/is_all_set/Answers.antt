use Rattle.std.proofs.Common.{◌==◌, ap₂, ◌∙◌}
use Rattle.fts_pack.proofs.BitsLemmas.{all_counted}
use Rattle.fts_pack.proofs.bits.bits.Bits.is_all_set.Goals as goal

pub returns : goal.returns
returns c = ap₂ (λ n m. n == m) c.count_ones.ensures c.len.ensures ∙ all_counted c.args.self.now
