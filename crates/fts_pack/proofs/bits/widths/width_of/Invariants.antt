use Rattle.std.proofs.Common.{take}
use Rattle.fts_pack.proofs.PackingLemmas.{HasBitsOf}
use Rattle.fts_pack.proofs.bits.widths.width_of.Given as goal

abbrev pub invariant-loop-number : goal.invariant-loop-number
invariant-loop-number l = HasBitsOf (take l.number-index l.numbers) l.bits
