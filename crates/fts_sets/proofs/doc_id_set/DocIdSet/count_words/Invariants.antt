-- Those counted so far, and those from here on.
use Rattle.std.proofs.Common.{◌≡◌, ◌+◌, ◌-◌, ◌*◌, ◌<◌, ◌^◌, length}
use Rattle.fts_postings.specs.Remaining.{at_least}
use Rattle.fts_sets.proofs.doc_id_set.DocIdSet.count_words.Given as goal

abbrev pub invariant-loop-index : goal.invariant-loop-index
invariant-loop-index l = record {
  near : l.index < 2 ^ 57;
  sum : l.count + length (at_least (64 * l.index) l.self) ≡ length (at_least (64 * l.fn.index) l.self);
}

abbrev pub decreases-loop-index : goal.decreases-loop-index
decreases-loop-index l = l.words - l.index
