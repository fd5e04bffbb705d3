use Rattle.std.proofs.Common.{◌≡◌, ◌+◌, ◌++◌, map, take}
use Rattle.fts_segment.proofs.copy_postings.push_shifted.Given as goal

abbrev pub invariant-loop-doc : goal.invariant-loop-doc
invariant-loop-doc l = l.docs.items ≡ l.fn.docs.items ++ map (λ doc. l.first + doc) (take l.doc-index l.block)
