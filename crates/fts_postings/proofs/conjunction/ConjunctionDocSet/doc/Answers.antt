-- What is in common is kept of what remains of the leading cursor.
use Rattle.std.proofs.Common.{ap, subst, ◌∙◌}
use Rattle.std.specs.List.{slice_get}
use Rattle.std.specs.List.Sorted.{IsStrictlyIncreasing}
use Rattle.std.proofs.lemmas.List.Kept.{IsStrictlyIncreasing-filter}
use Rattle.fts_postings.specs.Posting.{remaining_of}
use Rattle.fts_postings.specs.Conjoined.{Conjoined, common_of, each_remaining}
use Rattle.fts_postings.specs.Sets.{in_all}
use Rattle.fts_postings.proofs.ConjoinedLemmas.{together-passes}
use Rattle.fts_postings.proofs.SetLemmas.{filter-first}
use Rattle.fts_postings.proofs.conjunction.ConjunctionDocSet.doc.Goals as goal

pub returns-clause-first : goal.returns-clause-first
returns-clause-first g c =
    let lead = c.self.inside.lead in
    let others = c.self.inside.others.items in
    c.doc.ensures.first ∙ filter-first (in_all (each_remaining others)) (remaining_of lead) (together-passes lead others c.self.invariant.together)
    ∙ ap (λ p. slice_get (common_of p) 0) c.self.view_is

pub returns-clause-rises : goal.returns-clause-rises
returns-clause-rises g c =
    subst (λ (p : Conjoined). IsStrictlyIncreasing (common_of p)) c.self.view_is
    (IsStrictlyIncreasing-filter (in_all (each_remaining c.self.inside.others.items)) (remaining_of c.self.inside.lead) c.doc.ensures.rises)
