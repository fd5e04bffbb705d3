use Rattle.std.proofs.Common.{arith}
use Rattle.fts_merge.proofs.FoundLemmas.{later-strikes}
use Rattle.fts_merge.proofs.term_delete.covers.Goals as goal

pub returns : goal.returns
returns c = λ same schema d. later-strikes schema d c.args.delete.now c.args.other.now (omega (arith, c.if-delete-other.false)) (c.is_same.ensures same)
