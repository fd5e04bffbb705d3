use Rattle.std.proofs.lemmas.List.{length-map}
use Rattle.fts_model.specs.Documents.{value_in_field}
use Rattle.fts_segment.specs.Occurrences.{values_in}
use Rattle.fts_segment.proofs.keyword_index.KeywordIndex.new.Goals as goal

pub of-requires-clause-terms : goal.of-requires-clause-terms
of-requires-clause-terms c = (
  values_in c.args.field c.args.documents.now,
  length-map c.args.documents.now (λ d. value_in_field d.value c.args.field),
  c.in_ok-dictionary.ensures,
)

pub returns : goal.returns
returns c = c.in_ok-index.ensures (values_in c.args.field c.args.documents.now)
    (length-map c.args.documents.now (λ d. value_in_field d.value c.args.field)) c.in_ok-dictionary.ensures
