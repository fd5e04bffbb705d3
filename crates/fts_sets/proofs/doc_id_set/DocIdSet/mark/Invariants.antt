-- Those below the next word are marked.
use Rattle.std.proofs.Common.{◌≡◌, ◌-◌, ◌*◌, ◌/◌, ◌≤◌}
use Rattle.fts_postings.specs.Sets.{has}
use Rattle.fts_sets.proofs.MarkLemmas.{MarkedBelow}
use Rattle.fts_sets.proofs.doc_id_set.DocIdSet.mark.Given as goal

abbrev pub invariant-loop-index : goal.invariant-loop-index
invariant-loop-index l = record {
  low : l.first / 64 ≤ l.index;
  base_is : l.window.base ≡ l.initial.window.base;
  from_is : l.window.from ≡ l.initial.window.from;
  last_is : l.window.last ≡ l.initial.window.last;
  marked : MarkedBelow (has l.self) l.initial.window.base l.initial.window.last l.first l.initial.window.words l.window.words (64 * l.index);
}

abbrev pub decreases-loop-index : goal.decreases-loop-index
decreases-loop-index l = l.end - l.index
