-- The cursors before the index were brought to the document.
use Rattle.fts_postings.proofs.ConjoinedLemmas.{BroughtUpTo}
use Rattle.fts_postings.proofs.conjunction.bring.Given as goal

abbrev pub invariant-loop-other : goal.invariant-loop-other
invariant-loop-other g l = BroughtUpTo l.doc l.initial.others l.others l.other-index
