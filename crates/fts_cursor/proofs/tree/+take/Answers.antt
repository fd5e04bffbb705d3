-- A conjunction of lists is where it was, later on; an exclusion picks what the other part lacks; and a filtered tree is
-- at the first of its documents that are kept.
use Rattle.std.proofs.Common.{ap, sym, subst, ◌∙◌}
use Rattle.std.specs.List.{filter}
use Rattle.std.specs.List.Sorted.{IsStrictlyIncreasing}
use Rattle.fts_postings.specs.Sets.{has, lacks}
use Rattle.fts_postings.specs.Takes.{Takes}
use Rattle.fts_sets.specs.Kept.{IsKept}
use Rattle.fts_cursor.specs.Terms.{AreTied}
use Rattle.fts_cursor.specs.TreeValues.{TreeValue}
use Rattle.fts_cursor.specs.Trees.{differ}
use Rattle.fts_cursor.proofs.ExclusionLemmas.{Takes-without}
use Rattle.fts_cursor.proofs.LiveLemmas.{Takes-live}
use Rattle.fts_cursor.proofs.TermsLemmas.{opened-continue, terms-continue}
use Rattle.fts_cursor.proofs.TreeLemmas.{filtered_stands}
use Rattle.fts_cursor.proofs.tree.+take.Goals as goal

pub take_from-returns-in-Terms-clause-stands : goal.take_from-returns-in-Terms-clause-stands
take_from-returns-in-Terms-clause-stands t c =
    let tied : AreTied c.in-Terms.terms = rw c.in-Terms.is at c.requires.tied in
    record {
      first = c.doc-in-Terms.ensures.first;
      rises = c.doc-in-Terms.ensures.rises;
      parts = tt;
      tied = (terms-continue c.in-Terms.terms c.take-count-in-Terms.new.self c.take-count-in-Terms.ensures.follows tied).1;
    }

pub take_from-returns-in-Terms-clause-walked : goal.take_from-returns-in-Terms-clause-walked
take_from-returns-in-Terms-clause-walked t c =
    let tied : AreTied c.in-Terms.terms = rw c.in-Terms.is at c.requires.tied in
    rw c.in-Terms.is (record {
      continues = opened-continue c.in-Terms.terms c.take-count-in-Terms.new.self c.in-Terms.field-1 _ _ c.take-count-in-Terms.ensures.follows tied;
      whole = λ h. h;
    })

pub exclusion::take_without-returns-clause-taken : goal.exclusion::take_without-returns-clause-taken
exclusion::take_without-returns-clause-taken t c =
    let whole = c.args.parts.now.kept.value.remaining in
    let before = c.args.parts.now.dropped.value.remaining in
    let mid = c.take-taken.new.self.remaining in
    let out = c.take-taken.new.out in
    let n = c.take-taken.result in
    let k = c.keep_lacking-kept in
    let took = subst (λ (s : TreeValue). Takes s.remaining mid out n) c.deref_mut.ensures.value c.take-taken.ensures.taken in
    let rises = subst (λ (s : TreeValue). IsStrictlyIncreasing s.remaining) c.deref_mut.ensures.value c.take-taken.ensures.rises in
    let picked = subst (λ (s : TreeValue). IsKept (lacks s.remaining) n out k.new.docs k.result) c.deref_mut-2.ensures.value k.ensures.kept in
    subst (λ left. Takes (differ c.args.parts.now) left k.new.docs k.result) (sym c.settle-next.ensures.met.is)
    (Takes-without whole mid before k.new.dropped.remaining out k.new.docs n k.result took rises picked
    (λ d all. k.ensures.later d all ∙ ap (λ (s : TreeValue). has s.remaining d) c.deref_mut-2.ensures.value) c.requires.0 c.requires.1.parts
    c.requires.1.first)

pub filtered_tree::take_filtered-returns-clause-taken : goal.filtered_tree::take_filtered-returns-clause-taken
filtered_tree::take_filtered-returns-clause-taken t c =
    let f = c.args.filtered.now in
    let test = has f.set in
    let took = c.take-taken in
    let kept = c.retain-kept in
    let taken : Takes f.tree.value.remaining took.new.self.remaining took.new.out took.result =
    subst (λ (s : TreeValue). Takes s.remaining took.new.self.remaining took.new.out took.result) c.deref_mut.ensures.value took.ensures.taken in
    Takes-live test f.tree.value.remaining took.new.self.remaining c.settle-next.new.tree.remaining took.new.out kept.new.docs took.result kept.result
    c.requires.1.parts taken
    (c.settle-next.ensures.same ∙ ap (λ (s : TreeValue). filter test s.remaining) c.deref_mut-2.ensures.value)
    kept.ensures.front kept.ensures.size kept.ensures.high

pub filtered_tree::take_filtered-returns-clause-stands : goal.filtered_tree::take_filtered-returns-clause-stands
filtered_tree::take_filtered-returns-clause-stands t c = filtered_stands _ _ c.settle-next.ensures.settled
