use Rattle.std.proofs.Common.{◌≡◌, ◌++◌, ◌∷◌, [], IfSome, Option, take, ap, sym, subst, ◌∙◌}
use Rattle.std.specs.Prelude.{option_copied}
use Rattle.std.proofs.lemmas.List.{map_push}
use Rattle.std.proofs.lemmas.List.Elements.{All-push}
use Rattle.fts_model.specs.declared.value.FieldValue.{FieldValue}
use Rattle.fts_model.specs.Documents.{value_in_field}
use Rattle.fts_segment.specs.Occurrences.{values_in}
use Rattle.fts_segment.specs.Segments.{number_of}
use Rattle.fts_segment.specs.Numbers.{numbers_of, Fits64}
use Rattle.fts_segment.proofs.FieldLemmas.{values-more, copied}
use Rattle.fts_segment.proofs.number_index.numbers_of.Goals as goal

pub loop-document-preserved : goal.loop-document-preserved
loop-document-preserved c =
    let kind = c.args.kind in
    let i = c.loop-document.document-index in
    let d = c.document-item.result in
    let vs = values_in c.args.field (take i c.args.documents.now) in
    let v = value_in_field d.value c.args.field in
    let is : option_copied c.value.result ≡ v = c.value.ensures.value in
    let P : FieldValue → Type 0 = Fits64 kind in
    let Q : Option FieldValue → Type 0 = λ o. IfSome o P in
    let fits : Q v = subst Q is (copied P c.value.result c.number_in.ensures.fits) in
    rw (values-more c.args.field c.args.documents.now i d c.loop-document-test.true c.document-item.is) (
      c.in_ok-push.ensures.items ∙ ap (λ xs. xs ++ c.number_in.result ∷ []) c.loop-document.invariant.0
          ∙ ap (λ x. numbers_of kind vs ++ x ∷ []) (c.number_in.ensures.number ∙ ap (number_of kind) is) ∙ sym (map_push (number_of kind) vs v),
      All-push Q vs v c.loop-document.invariant.1 fits,
    )
