-- What is left of what is in common is what that which is left has in common.
use Rattle.std.proofs.Common.{ap, ap₂, sym, ◌∙◌, arith}
use Rattle.std.proofs.lemmas.List.{with_items_is}
use Rattle.fts_postings.specs.Posting.{remaining_of}
use Rattle.fts_postings.specs.Remaining.{at_least}
use Rattle.fts_postings.specs.Sets.{common, in_all}
use Rattle.fts_postings.specs.Conjoined.{common_of, each_remaining}
use Rattle.std.specs.List.{filter}
use Rattle.fts_postings.proofs.RemainingLemmas.{nothing_first}
use Rattle.fts_postings.proofs.SetLemmas.{filter-at_least, filter-stays}
use Rattle.fts_postings.proofs.ConjoinedLemmas.{MayBeBrought-sought, AllFollow-same}
use Rattle.fts_postings.proofs.conjunction.ConjunctionDocSet.seek.Goals as goal

pub align-requires : goal.align-requires
align-requires g c = record {
  few = rw c.deref_mut.ensures.value (MayBeBrought-sought c.self.inside.lead c.seek.new.self c.self.inside.others.items c.in-Some.doc c.args.target
      c.self.invariant.few c.seek.ensures.follows c.seek.ensures.remaining (sym c.in-Some.is ∙ c.doc.ensures.first) c.if-doc-target.true);
}

pub invariant_of-self : goal.invariant_of-self
invariant_of-self g c =
    let items = with_items_is c.self.inside.others c.align.new.others (omega arith) in
    rw items (record { together = c.align.ensures.together; few = c.align.ensures.few })

pub returns-then-doc-target-clause-remaining : goal.returns-then-doc-target-clause-remaining
returns-then-doc-target-clause-remaining g c =
    let items = with_items_is c.self.inside.others c.align.new.others (omega arith) in
    ap (λ os. common (remaining_of c.align.new.lead) (each_remaining os)) items
    ∙ c.align.ensures.common
    ∙ ap₂ (λ xs os. common xs (each_remaining os)) c.seek.ensures.remaining c.deref_mut.ensures.value
    ∙ filter-at_least c.args.target (in_all (each_remaining c.self.inside.others.items)) (remaining_of c.self.inside.lead)
    ∙ ap (λ p. at_least c.args.target (common_of p)) c.self.view_is

pub returns-else-doc-target-clause-remaining : goal.returns-else-doc-target-clause-remaining
returns-else-doc-target-clause-remaining g c =
    rw (← c.self.view_is) (filter-stays c.args.target c.in-Some.doc (in_all (each_remaining c.self.inside.others.items)) (remaining_of c.self.inside.lead)
    c.doc.ensures.rises (sym c.in-Some.is ∙ c.doc.ensures.first) c.if-doc-target.false)

pub returns-else-doc-target-clause-follows : goal.returns-else-doc-target-clause-follows
returns-else-doc-target-clause-follows g c = AllFollow-same c.args.self.now

pub returns-in_default-clause-follows : goal.returns-in_default-clause-follows
returns-in_default-clause-follows g c = AllFollow-same c.args.self.now

pub returns-in_default-clause-remaining : goal.returns-in_default-clause-remaining
returns-in_default-clause-remaining g c =
    let test = in_all (each_remaining c.self.inside.others.items) in
    let none = nothing_first (remaining_of c.self.inside.lead) (sym c.in_default.is ∙ c.doc.ensures.first) in
    rw (← c.self.view_is) (ap (filter test) none ∙ sym (ap (λ xs. at_least c.args.target (filter test xs)) none))
