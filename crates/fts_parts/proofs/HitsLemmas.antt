-- As many hits as numbers of documents.
use Rattle.std.proofs.Common.{◌≡◌, ℕ, ◌+◌, ◌<◌, List, [], ◌∷◌, length}
use Rattle.std.proofs.Common.{Some, None, Option, refl, arith}
use Rattle.std.proofs.Common.{All}
use Rattle.std.specs.Prelude.{slice_get}
use Rattle.std.specs.List.{cons_option}
use Rattle.std.proofs.lemmas.List.Elements.{All-head, All-tail}
use Rattle.std.proofs.lemmas.Option.{slice_get-get_or}
use Rattle.fts_model.specs.declared.operation.Stamped.{Stamped}
use Rattle.fts_model.specs.Documents.{DocumentValue}
use Rattle.fts_segment.specs.Segments.{SegmentValue}
use Rattle.fts_parts.specs.Collected.{hits_at}

-- one more document, where there is one
length-one_more : (o : Option (Stamped DocumentValue)) (d : Stamped DocumentValue) (rest : List (Stamped DocumentValue)) → o ≡ Some d →
    length (cons_option o rest) ≡ length rest + 1
length-one_more None d rest is = cc
length-one_more (Some e) d rest is = omega arith

-- there are as many documents as numbers of documents
pub length-hits_at : (segment : SegmentValue) (docs : List ℕ) → All (λ doc. doc < length segment.documents) docs → length (hits_at segment docs) ≡ length docs
length-hits_at segment [] within = refl
length-hits_at segment (doc ∷ docs) within =
    let P : ℕ → Type 0 = λ doc. doc < length segment.documents in
    let inside : doc < length segment.documents = All-head P doc docs within in
    let d : Stamped DocumentValue = record { stamp = 0; value = record { schema = []; values = [] } } in
    omega (
      arith,
      length-one_more (slice_get segment.documents doc) _ (hits_at segment docs) (slice_get-get_or segment.documents doc d inside),
      length-hits_at segment docs (All-tail P doc docs within),
    )
