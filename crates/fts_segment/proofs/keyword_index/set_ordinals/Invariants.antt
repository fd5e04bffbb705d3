use Rattle.std.proofs.Common.{◌≡◌, take}
use Rattle.fts_segment.specs.Keywords.{with_ordinal}
use Rattle.fts_segment.proofs.keyword_index.set_ordinals.Given as goal

abbrev pub invariant-loop-doc : goal.invariant-loop-doc
invariant-loop-doc l = l.ordinals ≡ with_ordinal l.ordinal l.fn.ordinals (take l.doc-index l.documents)
