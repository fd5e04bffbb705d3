use Rattle.std.proofs.Common.{arith}
use Rattle.fts_merge.proofs.FoundLemmas.{survives_found-covered}
use Rattle.fts_merge.proofs.term_delete.is_covered.Goals as goal

pub returns : goal.returns
returns c = λ covered schema d.
    survives_found-covered schema d c.args.deletes.now c.args.number c.index-deletes-number.result c.index-deletes-number-2.result
    (omega (arith, c.if-number-eq0.false)) c.requires
    c.index-deletes-number.is c.index-deletes-number-2.is (c.covers.ensures covered schema d)
