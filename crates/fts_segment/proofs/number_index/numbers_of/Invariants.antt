use Rattle.std.proofs.Common.{◌≡◌, take, All, IfSome}
use Rattle.fts_segment.specs.Occurrences.{values_in}
use Rattle.fts_segment.specs.Numbers.{numbers_of, Fits64}
use Rattle.fts_segment.proofs.number_index.numbers_of.Given as goal

abbrev pub invariant-loop-document : goal.invariant-loop-document
invariant-loop-document l = (l.numbers.items ≡ numbers_of l.kind (values_in l.field (take l.document-index l.documents)))
    × All (λ v. IfSome v (Fits64 l.kind)) (values_in l.field (take l.document-index l.documents))
