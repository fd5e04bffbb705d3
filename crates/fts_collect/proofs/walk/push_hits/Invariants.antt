use Rattle.std.proofs.Common.{◌≡◌, ◌++◌, filter, take}
use Rattle.fts_postings.specs.Sets.{has}
use Rattle.fts_collect.proofs.walk.push_hits.Given as goal

abbrev pub invariant-loop-doc : goal.invariant-loop-doc
invariant-loop-doc l = l.found.items ≡ l.fn.found.items ++ filter (has l.hits) (take l.doc-index l.docs)
