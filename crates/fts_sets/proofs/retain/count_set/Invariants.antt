-- Those of the documents so far that pass are counted.
use Rattle.std.proofs.Common.{◌≡◌, length, take}
use Rattle.std.specs.List.{filter}
use Rattle.fts_postings.specs.Windows.{is_set}
use Rattle.fts_sets.proofs.retain.count_set.Given as goal

abbrev pub invariant-loop-doc : goal.invariant-loop-doc
invariant-loop-doc l = l.count ≡ length (filter (is_set l.bits) (take l.doc-index l.docs))
