-- The bits of the documents so far are set.
use Rattle.std.proofs.Common.{take}
use Rattle.fts_pack.proofs.BitsLemmas.{AreSet}
use Rattle.fts_pack.proofs.bits.bits.Bits.set_all.Given as goal

abbrev pub invariant-loop-doc : goal.invariant-loop-doc
invariant-loop-doc l = AreSet l.initial.self l.self (take l.doc-index l.docs)
