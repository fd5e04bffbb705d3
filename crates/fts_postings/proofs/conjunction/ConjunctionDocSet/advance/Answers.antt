-- The leading cursor is at a document of all: the step over it is that over what is in common.
use Rattle.std.proofs.Common.{ap, ap₂, ◌∙◌, arith, drop}
use Rattle.std.proofs.lemmas.List.{with_items_is}
use Rattle.fts_postings.specs.Posting.{remaining_of}
use Rattle.fts_postings.specs.Sets.{common, in_all}
use Rattle.fts_postings.specs.Conjoined.{common_of, each_remaining}
use Rattle.fts_postings.proofs.SetLemmas.{filter-step}
use Rattle.fts_postings.proofs.ConjoinedLemmas.{MayBeBrought-advanced, together-passes}
use Rattle.fts_postings.proofs.conjunction.ConjunctionDocSet.advance.Goals as goal

pub align-requires : goal.align-requires
align-requires g c = record {
  few = rw c.deref_mut.ensures.value (MayBeBrought-advanced c.self.inside.lead c.advance.new.self c.self.inside.others.items c.self.invariant.few
      c.advance.ensures.walks.follows c.advance.ensures.remaining);
}

pub invariant_of-self : goal.invariant_of-self
invariant_of-self g c =
    let items = with_items_is c.self.inside.others c.align.new.others (omega arith) in
    rw items (record { together = c.align.ensures.together; few = c.align.ensures.few })

pub returns-clause-remaining : goal.returns-clause-remaining
returns-clause-remaining g c =
    let items = with_items_is c.self.inside.others c.align.new.others (omega arith) in
    ap (λ os. common (remaining_of c.align.new.lead) (each_remaining os)) items
    ∙ c.align.ensures.common
    ∙ ap₂ (λ xs os. common xs (each_remaining os)) c.advance.ensures.remaining c.deref_mut.ensures.value
    ∙ filter-step (in_all (each_remaining c.self.inside.others.items)) (remaining_of c.self.inside.lead)
    (together-passes c.self.inside.lead c.self.inside.others.items c.self.invariant.together)
    ∙ ap (λ p. drop 1 (common_of p)) c.self.view_is
