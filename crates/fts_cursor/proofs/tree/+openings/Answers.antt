-- A sum goes on by one part, and a part isn't as deep as all.
use Rattle.std.proofs.Common.{◌≡◌, ◌*◌, ◌<◌, ◌≤◌, None, length, ap, subst, sym, ◌∙◌, arith, rules}
use Rattle.std.specs.List.{slice_get}
use Rattle.fts_postings.specs.Bounds.{most_at}
use Rattle.fts_postings.proofs.ConjoinedLemmas.{most-at_end}
use Rattle.fts_cursor.specs.Standing.{at_most, blocks_to}
use Rattle.fts_cursor.specs.TreeValues.{TreeValue}
use Rattle.fts_cursor.specs.Terms.{AreTied, IsAlone, IsTied}
use Rattle.fts_cursor.specs.Trees.{IsTiedNode, tree_value, value_of}
use Rattle.fts_cursor.specs.declared.tree.Node.TheVariants.{And, Postings, Terms, Without}
use Rattle.std.proofs.lemmas.Bool.{eqb-true}
use Rattle.fts_postings.specs.Posting.{blocks_reached, members_of, remaining_of}
use Rattle.fts_cursor.proofs.AloneLemmas.{alone_reached}
use Rattle.fts_cursor.proofs.PartsLemmas.{height_within}
use Rattle.fts_cursor.proofs.TreeLemmas.{all_most-more, all_openings-more}
use Rattle.fts_cursor.proofs.TermsLemmas.{terms-tied}
use Rattle.fts_cursor.proofs.tree.+openings.Goals as goal

pub openings_in-openings-requires : goal.openings_in-openings-requires
openings_in-openings-requires t c =
    let less : 2 * c.part-item.result.height < t =
    omega (
      arith,
      height_within c.args.parts.now c.loop-part.part-index c.part-item.result c.loop-part-test.true,
      ap (λ s. s.height) c.part-item.is,
      c.decreases,
    ) in
    (less, tt)

pub openings_in-loop-part-preserved : goal.openings_in-loop-part-preserved
openings_in-loop-part-preserved t c =
    let openings = all_openings-more c.args.parts.now c.loop-part.part-index c.part-item.result c.loop-part-test.true in
    let most = all_most-more c.args.parts.now c.loop-part.part-index c.part-item.result c.loop-part-test.true in
    record {
      sum = omega (arith, openings, ap (λ s. s.openings) c.part-item.is);
      bound = omega (
        arith,
        openings,
        most,
        ap (λ s. s.openings) c.part-item.is,
        ap (λ s. most_at s.bound None) c.part-item.is,
        c.openings.ensures.bound,
        most-at_end c.part-item.result.bound (slice_get c.part-item.result.remaining 0),
        c.loop-part.invariant.bound,
      );
    }

pub Tree::openings-returns-in-Postings-clause-end : goal.Tree::openings-returns-in-Postings-clause-end
Tree::openings-returns-in-Postings-clause-end t c =
    let p = c.in-Postings.postings in
    let is : tree_value (Postings p) ≡ c.args.self.now = ap tree_value (sym c.in-Postings.is ∙ c.deref.ensures) ∙ ap value_of (sym c.in-Cursor.is)
    ∙ c.self.view_is in
    let tied : IsTied p = (subst IsTiedNode (sym c.deref.ensures ∙ c.in-Postings.is) (rw c.in-Cursor.is at c.self.invariant.stands).tied).0 in
    rw (← is) (λ whole none. tied ∙ eqb-true p.opened (blocks_reached p) whole ∙ c.openings.ensures.end none
    ∙ (let e : length p.blocks ≡ most_at (at_most (length p.blocks)) None = omega arith in e))

pub Tree::openings-returns-in-Postings-clause-along : goal.Tree::openings-returns-in-Postings-clause-along
Tree::openings-returns-in-Postings-clause-along t c =
    let p = c.in-Postings.postings in
    let is : tree_value (Postings p) ≡ c.args.self.now = ap tree_value (sym c.in-Postings.is ∙ c.deref.ensures) ∙ ap value_of (sym c.in-Cursor.is)
    ∙ c.self.view_is in
    let tied : IsAlone p =
    subst IsTiedNode (sym c.deref.ensures ∙ c.in-Postings.is) (rw c.in-Cursor.is at c.self.invariant.stands).tied in
    rw (← is) (λ documents same.
    let all : members_of p ≡ documents = cc in
    subst (λ xs. p.count ≤ blocks_to xs (slice_get (remaining_of p) 0)) all
    (omega (arith, tied.0, c.openings.ensures.opened, c.openings.ensures.bound, alone_reached p tied.1)))

pub Tree::openings-returns-in-Terms-clause-sum : goal.Tree::openings-returns-in-Terms-clause-sum
Tree::openings-returns-in-Terms-clause-sum t c =
    let terms = c.in-Terms.terms in
    let tied : AreTied terms = subst IsTiedNode (sym c.deref.ensures ∙ c.in-Terms.is) (rw c.in-Cursor.is at c.self.invariant.stands).tied in
    let is : tree_value (Terms terms c.in-Terms.opened) ≡ c.args.self.now = ap tree_value (sym c.in-Terms.is ∙ c.deref.ensures) ∙ ap value_of (sym c.in-Cursor.is)
    ∙ c.self.view_is in
    rw (← is) (omega (arith, terms-tied terms tied, c.openings-in-Terms.ensures.sum, c.saturating_add.ensures))

pub Tree::openings-returns-in-Terms-clause-bound : goal.Tree::openings-returns-in-Terms-clause-bound
Tree::openings-returns-in-Terms-clause-bound t c =
    let terms = c.in-Terms.terms in
    let tied : AreTied terms = subst IsTiedNode (sym c.deref.ensures ∙ c.in-Terms.is) (rw c.in-Cursor.is at c.self.invariant.stands).tied in
    let is : tree_value (Terms terms c.in-Terms.opened) ≡ c.args.self.now = ap tree_value (sym c.in-Terms.is ∙ c.deref.ensures) ∙ ap value_of (sym c.in-Cursor.is)
    ∙ c.self.view_is in
    rw (← is) (omega (arith, terms-tied terms tied, c.openings-in-Terms.ensures.bound))

-- a part opened no more than it does at most
within : (a b : TreeValue) → a ≡ b → a.openings ≤ most_at a.bound (slice_get a.remaining 0) → b.openings ≤ most_at b.bound None
within a b is h =
    let all : a.openings ≤ most_at a.bound None = omega (arith, h, most-at_end a.bound (slice_get a.remaining 0)) in
    subst (λ (s : TreeValue). s.openings ≤ most_at s.bound None) is all

pub Tree::openings-returns-in-And-clause-bound : goal.Tree::openings-returns-in-And-clause-bound
Tree::openings-returns-in-And-clause-bound t c =
    let lead = within c.deref-in-And.result.now c.in-And.parts.lead.value (search rules) c.openings-in-And.ensures.bound in
    let others = rw c.deref-in-And-2.ensures.value at c.openings_in.ensures.bound in
    let is : tree_value (And c.in-And.parts) ≡ c.args.self.now = ap tree_value (sym c.in-And.is ∙ c.deref.ensures) ∙ ap value_of (sym c.in-Cursor.is)
    ∙ c.self.view_is in
    rw (← is) (omega (arith, lead, others))

pub Tree::openings-returns-in-Without-clause-bound : goal.Tree::openings-returns-in-Without-clause-bound
Tree::openings-returns-in-Without-clause-bound t c =
    let kept = within c.deref-in-Without.result.now c.in-Without.parts.kept.value (search rules) c.openings-in-Without.ensures.bound in
    let dropped = within c.deref-in-Without-2.result.now c.in-Without.parts.dropped.value (search rules) c.openings-in-Without-2.ensures.bound in
    let is : tree_value (Without c.in-Without.parts) ≡ c.args.self.now = ap tree_value (sym c.in-Without.is ∙ c.deref.ensures)
    ∙ ap value_of (sym c.in-Cursor.is) ∙ c.self.view_is in
    rw (← is) (omega (arith, kept, dropped))
