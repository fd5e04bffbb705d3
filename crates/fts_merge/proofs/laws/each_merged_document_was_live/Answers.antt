use Rattle.std.proofs.Common.{◌≡◌, ap, ◌∙◌, arith}
use Rattle.std.specs.Prelude.{slice_get}
use Rattle.fts_merge.proofs.PlacesLemmas.{told_from}
use Rattle.fts_merge.proofs.laws.each_merged_document_was_live.Goals as goal

pub returns : goal.returns
returns c = λ sources place origin bits is.
    let at = told_from 0 sources place origin bits is in
    let number : origin.source ≡ at.0 = at.1 ∙ omega arith in
    (at.2.source, ap (slice_get sources) number ∙ at.2.is, at.2.live, at.2.stored)
