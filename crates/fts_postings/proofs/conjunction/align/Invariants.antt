-- What all have in common stays, and the others may be brought to where the leading cursor stands.
use Rattle.std.proofs.Common.{length}
use Rattle.fts_postings.specs.Posting.{remaining_of}
use Rattle.fts_postings.proofs.ConjoinedLemmas.{Aligning}
use Rattle.fts_postings.proofs.conjunction.align.Given as goal

abbrev pub invariant-loop-doc : goal.invariant-loop-doc
invariant-loop-doc g l = Aligning l.fn.lead l.fn.others l.lead l.others

abbrev pub decreases-loop-doc : goal.decreases-loop-doc
decreases-loop-doc g l = length (remaining_of l.lead)
