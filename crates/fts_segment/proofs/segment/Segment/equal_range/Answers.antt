-- The names of a field's dictionary are the texts of the segment's documents.
use Rattle.std.proofs.Common.{◌≡◌, true, ap, ap₂, ◌∙◌}
use Rattle.std.specs.Option.{option_map_or}
use Rattle.fts_model.specs.Schemas.{holds_numbers}
use Rattle.fts_model.specs.declared.schema.Kind.TheVariants as kinds
use Rattle.fts_segment.specs.Keywords.{before, up_to}
use Rattle.fts_segment.specs.Occurrences.{values_in}
use Rattle.fts_segment.specs.Segments.{keywords}
use Rattle.fts_segment.proofs.FieldLemmas.{texts_of-values}
use Rattle.fts_segment.proofs.KeywordIndexLemmas.{terms_are_texts}
use Rattle.fts_segment.proofs.segment.Segment.equal_range.Goals as goal

pub dictionary-requires : goal.dictionary-requires
dictionary-requires c = ap (λ o. option_map_or holds_numbers o true) c.requires

pub equal_range-before-requires : goal.equal_range-before-requires
equal_range-before-requires c = (c.dictionary.ensures kinds.Keyword c.requires).dictionary_is.ascends

names_are : (c : goal.After-equal_range-before) → c.dictionary.result.now.names ≡ keywords c.args.self.now c.args.field
names_are c =
    let segment = c.args.self.now in
    terms_are_texts (values_in c.args.field segment.documents) c.dictionary.result.now (c.dictionary.ensures kinds.Keyword c.requires)
    ∙ texts_of-values segment c.args.field kinds.Keyword c.requires

pub returns-clause-before : goal.returns-clause-before
returns-clause-before c = c.equal_range-before.ensures.before ∙ ap₂ before (names_are c) c.as_bytes.ensures.value

pub returns-clause-up_to : goal.returns-clause-up_to
returns-clause-up_to c = c.equal_range-before.ensures.up_to ∙ ap₂ up_to (names_are c) c.as_bytes.ensures.value
