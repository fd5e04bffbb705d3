use Rattle.std.proofs.Common.{◌≡◌, ◌+◌, ap, ◌∙◌, arith}
use Rattle.std.specs.Prelude.{slice_get}
use Rattle.fts_model.specs.declared.operation.Stamped.{Stamped}
use Rattle.fts_model.specs.Documents.{DocumentValue}
use Rattle.fts_model.specs.Operations.{has}
use Rattle.fts_segment.specs.Segments.{positions_among, positions_of, document_tokens}
use Rattle.fts_segment.proofs.PositionsLemmas.{kth}
use Rattle.fts_segment.proofs.laws.positions_are_of_postings.Goals as goal

pub returns : goal.returns
returns c segment term text k is within =
    let r = kth (λ (d : Stamped DocumentValue). has segment.schema d.value term)
    (λ (d : Stamped DocumentValue). positions_among text (document_tokens segment.schema term.field d.value)) 0 segment.documents k within in (
      r.0,
      ap (slice_get segment.documents) (r.2 ∙ (let at : 0 + r.1 ≡ r.1 = omega arith in at)) ∙ r.3,
      ap (λ v. slice_get (positions_of segment term v) k) is
          ∙ r.4,
    )
