-- Those looked at are below.
use Rattle.std.proofs.Common.{◌<◌, All, take}
use Rattle.fts_sets.proofs.retain.are_below.Given as goal

abbrev pub invariant-loop-doc : goal.invariant-loop-doc
invariant-loop-doc l = All (λ d. d < l.count) (take l.doc-index l.docs)
