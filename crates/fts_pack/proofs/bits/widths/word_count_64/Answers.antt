use Rattle.std.proofs.Common.{arith}
use Rattle.std.proofs.lemmas.Grind.{common_steps}
use Rattle.fts_pack.specs.bits.Digits.{word_count}
use Rattle.fts_pack.proofs.bits.widths.word_count_64.Goals as goal

pub returns : goal.returns
unfolding word_count
returns c = grind (arith, common_steps)
