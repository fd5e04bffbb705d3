-- Cursors as they were made may be brought to the first document of the leading one.
use Rattle.std.proofs.Common.{arith}
use Rattle.std.proofs.lemmas.List.{with_items_is}
use Rattle.fts_postings.proofs.ConjoinedLemmas.{MayBeBrought-fresh}
use Rattle.fts_postings.proofs.conjunction.Conjunction.new.Goals as goal

pub align-requires : goal.align-requires
align-requires g c = record { few = rw c.deref_mut.ensures.value (MayBeBrought-fresh c.args.lead c.args.others.items c.requires.fresh) }

pub invariant_of-result : goal.invariant_of-result
invariant_of-result g c =
    let items = with_items_is c.args.others c.align.new.others (omega arith) in
    rw items (record { together = c.align.ensures.together; few = c.align.ensures.few })
