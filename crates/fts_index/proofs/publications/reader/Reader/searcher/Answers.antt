use Rattle.std.proofs.Common.{ap, ◌∙◌}
use Rattle.fts_index.specs.Publications.{schema_of}
use Rattle.fts_index.proofs.PublicationsLemmas.{front_schema}
use Rattle.fts_index.proofs.publications.reader.Reader.searcher.Goals as goal

pub returns-clause-schema : goal.returns-clause-schema
returns-clause-schema c =
    front_schema c.in_ok-front.front c.in_ok-front.ensures.front ∙ ap (λ f. schema_of f.seen) c.in_ok-front.ensures.copy ∙ c.refresh.ensures.schema
    ∙ ap schema_of c.self.view_is
