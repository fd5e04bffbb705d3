-- What was marked so far, and the blocks that were opened for it.
use Rattle.std.proofs.Common.{length}
use Rattle.fts_postings.specs.Posting.{Follows, remaining_of}
use Rattle.fts_cursor.proofs.GatherLemmas.{IsMarking}
use Rattle.fts_cursor.proofs.tree.buffered_union.mark_postings.Given as goal

abbrev pub invariant-loop-doc : goal.invariant-loop-doc
invariant-loop-doc l = record {
  follows : Follows l.initial.postings l.postings;
  marking : IsMarking (remaining_of l.initial.postings) (remaining_of l.postings) l.initial.window l.window;
}

abbrev pub decreases-loop-doc : goal.decreases-loop-doc
decreases-loop-doc l = length (remaining_of l.postings)
