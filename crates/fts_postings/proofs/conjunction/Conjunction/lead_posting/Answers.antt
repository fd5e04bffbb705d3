-- The leading cursor is at the first in common.
use Rattle.std.proofs.Common.{ap, ◌∙◌}
use Rattle.std.specs.List.{slice_get}
use Rattle.fts_postings.specs.Conjoined.{each_remaining}
use Rattle.fts_postings.specs.Sets.{in_all}
use Rattle.fts_postings.specs.Posting.{remaining_of}
use Rattle.fts_postings.proofs.ConjoinedLemmas.{together-passes}
use Rattle.fts_postings.proofs.SetLemmas.{filter-first}
use Rattle.fts_postings.proofs.conjunction.Conjunction.lead_posting.Goals as goal

pub returns : goal.returns
returns g c =
    let lead = c.self.inside.lead in
    let others = c.self.inside.others.items in
    rw (← c.self.view_is) (λ documents is. ap (λ xs. slice_get xs 0) (c.posting.ensures documents is) ∙ filter-first (in_all (each_remaining others))
    (remaining_of lead) (together-passes lead others c.self.invariant.together))
