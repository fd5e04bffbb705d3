-- The rest of the proof of `segment::Segment::keyword_of_document`: the document that has the ordinal's text has the keyword.
use Rattle.std.proofs.Common.{◌≡◌, true, Some, None, ap, sym, ◌∙◌}
use Rattle.std.specs.Option.{option_map_or}
use Rattle.std.specs.Prelude.{option_copied, slice_get}
use Rattle.fts_model.specs.Schemas.{holds_numbers}
use Rattle.fts_model.specs.declared.schema.Kind.TheVariants as kinds
use Rattle.fts_model.specs.declared.value.FieldValue.TheVariants as values
use Rattle.fts_segment.specs.Keywords.{text_in_value}
use Rattle.fts_segment.specs.Occurrences.{values_in}
use Rattle.fts_segment.proofs.FieldLemmas.{texts_of-values}
use Rattle.fts_segment.proofs.OrdinalLemmas.{document_within, document_text}
use Rattle.fts_segment.proofs.segment.Segment.keyword_of_document.Goals as goal

pub dictionary-requires : goal.dictionary-requires
dictionary-requires c = ap (λ o. option_map_or holds_numbers o true) c.requires

pub returns-in_err-doc : goal.returns-in_err-doc
returns-in_err-doc c =
    let segment = c.args.self.now in
    ap option_copied c.from_residual.ensures
    ∙ sym (c.in_err-doc.ensures (values_in c.args.field segment.documents) (c.dictionary.ensures kinds.Keyword c.requires))
    ∙ ap (λ ts. slice_get ts c.args.ordinal) (texts_of-values segment c.args.field kinds.Keyword c.requires)

pub document-requires : goal.document-requires
document-requires c =
    let documents = c.args.self.now.documents in
    document_within c.args.field documents c.args.ordinal c.in_ok-doc.doc
    (c.in_ok-doc.ensures (values_in c.args.field documents) (c.dictionary.ensures kinds.Keyword c.requires))

pub returns-in_err-value : goal.returns-in_err-value
returns-in_err-value c =
    let documents = c.args.self.now.documents in
    let has = c.in_ok-doc.ensures (values_in c.args.field documents) (c.dictionary.ensures kinds.Keyword c.requires) in
    let text = document_text c.args.field documents c.args.ordinal c.in_ok-doc.doc c.document.result.now has c.document.ensures in
    let clash : None ≡ Some (values.Text has.text) = c.in_err-value.ensures.value ∙ text in
    absurd (let contra : None ≡ Some (values.Text has.text) = clash in cc)

pub returns : goal.returns
returns c =
    let documents = c.args.self.now.documents in
    let has = c.in_ok-doc.ensures (values_in c.args.field documents) (c.dictionary.ensures kinds.Keyword c.requires) in
    let text = document_text c.args.field documents c.args.ordinal c.in_ok-doc.doc c.document.result.now has c.document.ensures in
    let found : Some c.in_ok-value.field-0.now ≡ Some (values.Text has.text) = c.in_ok-value.ensures.value ∙ text in
    let same : c.in_ok-value.field-0.now ≡ values.Text has.text = cc in
    c.text_of.ensures ∙ ap text_in_value same ∙ sym has.is
    ∙ ap (λ ts. slice_get ts c.args.ordinal) (texts_of-values c.args.self.now c.args.field kinds.Keyword c.requires)
