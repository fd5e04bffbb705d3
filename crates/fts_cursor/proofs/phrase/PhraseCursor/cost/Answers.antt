-- Where the phrase stands is some of where its terms do.
use Rattle.std.proofs.Common.{◌∷◌, arith}
use Rattle.fts_postings.specs.Conjoined.{common_of}
use Rattle.fts_cursor.specs.Phrases.{phrase_at}
use Rattle.fts_postings.proofs.CostLemmas.{length-filter-le}
use Rattle.fts_cursor.proofs.phrase.PhraseCursor.cost.Goals as goal

pub returns : goal.returns
returns c = rw (← c.self.view_is)
    (omega (arith, length-filter-le (phrase_at (c.self.inside.first.value ∷ c.self.inside.others.items)) (common_of c.self.inside.terms)))
