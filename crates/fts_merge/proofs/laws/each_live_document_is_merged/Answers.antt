use Rattle.std.proofs.Common.{ℕ, Some, ap, ◌∙◌, arith}
use Rattle.fts_merge.proofs.PlacesLemmas.{placed_from}
use Rattle.fts_merge.proofs.laws.each_live_document_is_merged.Goals as goal

pub returns : goal.returns
returns c = λ sources number source document bits is live.
    let at = placed_from 0 sources number source document bits is live in
    (at.0, at.1 ∙ ap (λ (a : ℕ). Some (record { source = a; document = document })) (omega arith), at.2)
