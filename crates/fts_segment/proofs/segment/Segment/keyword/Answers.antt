-- The rest of the proof of `segment::Segment::keyword`: a keyword is the name of its ordinal.
use Rattle.std.proofs.Common.{◌≡◌, ℕ, true, ap, ◌∙◌}
use Rattle.std.specs.Option.{option_map_or}
use Rattle.std.specs.Prelude.{Some, option_copied, slice_get}
use Rattle.fts_model.specs.Operations.{kind_at}
use Rattle.fts_model.specs.Schemas.{holds_numbers}
use Rattle.fts_model.specs.declared.schema.Kind.TheVariants as kinds
use Rattle.fts_segment.specs.declared.dictionary.Dictionary.{Dictionary}
use Rattle.fts_segment.specs.FieldIndexes.{AreTerms}
use Rattle.fts_segment.specs.Occurrences.{values_in}
use Rattle.fts_segment.specs.Segments.{SegmentValue, keywords}
use Rattle.fts_segment.proofs.FieldLemmas.{texts_of-values}
use Rattle.fts_segment.proofs.KeywordIndexLemmas.{terms_are_texts}
use Rattle.fts_segment.proofs.segment.Segment.keyword.Goals as goal

pub dictionary-requires : goal.dictionary-requires
dictionary-requires c = ap (λ o. option_map_or holds_numbers o true) c.requires

-- the names of a keyword field are its keywords
names_are : (segment : SegmentValue) (field : ℕ) (dictionary : Dictionary) → kind_at segment.schema field ≡ Some kinds.Keyword →
    AreTerms kinds.Keyword (values_in field segment.documents) dictionary → dictionary.names ≡ keywords segment field
names_are segment field dictionary kind are =
    terms_are_texts (values_in field segment.documents) dictionary are ∙ texts_of-values segment field kinds.Keyword kind

pub returns-in_err-name : goal.returns-in_err-name
returns-in_err-name c =
    let names = names_are c.args.self.now c.args.field c.dictionary.result.now c.requires (c.dictionary.ensures kinds.Keyword c.requires) in
    ap option_copied c.from_residual.ensures ∙ c.in_err-name.ensures ∙ ap (λ ts. slice_get ts c.args.ordinal) names

pub returns-in-Ok : goal.returns-in-Ok
returns-in-Ok c =
    let names = names_are c.args.self.now c.args.field c.dictionary.result.now c.requires (c.dictionary.ensures kinds.Keyword c.requires) in
    ap Some c.in-Ok.ensures.cases.0 ∙ c.in_ok-name.ensures ∙ ap (λ ts. slice_get ts c.args.ordinal) names
