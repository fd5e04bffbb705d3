-- The window is empty at first, so the parts have all.
use Rattle.std.proofs.Common.{◌≡◌, ℕ, List, Option, None, subst, arith, ap, ◌∙◌}
use Rattle.std.proofs.lemmas.Result.{IfOk-weaker}
use Rattle.fts_postings.specs.Sets.{union}
use Rattle.fts_postings.specs.Remaining.{at_least}
use Rattle.fts_postings.specs.Bounds.{Bound, most_at}
use Rattle.fts_cursor.specs.TreeValues.{TreeValue, all_most, remains}
use Rattle.fts_cursor.specs.Trees.{IsNow, tree_value}
use Rattle.fts_cursor.specs.declared.tree.buffered_union.BufferedUnion.{BufferedUnion}
use Rattle.fts_cursor.specs.declared.tree.Node.TheVariants.{Or}
use Rattle.fts_postings.proofs.RemainingLemmas.{at_least_all}
use Rattle.fts_postings.proofs.UnionLemmas.{Rises-union}
use Rattle.fts_cursor.proofs.tree.Tree.or.Goals as goal

made : (doc : Option ℕ) (buffered : BufferedUnion) (lists : List (List ℕ)) → IsNow doc (Or buffered) (at_least 0 (union lists)) →
    IsNow doc (Or buffered) (union lists)
made doc buffered lists now =
    subst (IsNow doc (Or buffered)) (at_least_all 0 0 (union lists) (Rises-union lists) (omega arith)) now

pub refill-doc-requires : goal.refill-doc-requires
refill-doc-requires c = c.new-window.ensures

pub of-requires : goal.of-requires
of-requires c = (made c.refill-doc.result c.refill-doc.new.buffered (remains c.args.parts.items) c.refill-doc.ensures.now).stands

pub returns-clause-remaining : goal.returns-clause-remaining
returns-clause-remaining c =
    IfOk-weaker c.of.result (λ (t : TreeValue). t ≡ tree_value (Or c.refill-doc.new.buffered)) (λ t. t.remaining ≡ union (remains c.args.parts.items))
    (λ t is. ap (λ (s : TreeValue). s.remaining) is ∙ (made c.refill-doc.result c.refill-doc.new.buffered (remains c.args.parts.items)
    c.refill-doc.ensures.now).is) c.of.ensures

pub returns-clause-most : goal.returns-clause-most
returns-clause-most c =
    IfOk-weaker c.of.result (λ (t : TreeValue). t ≡ tree_value (Or c.refill-doc.new.buffered)) (λ t. most_at t.bound None ≡ all_most c.args.parts.items)
    (λ t is. omega (arith, ap (λ (s : TreeValue). most_at s.bound None) is, ap (λ (b : Bound). most_at b None) c.refill-doc.ensures.continues.bound))
    c.of.ensures
