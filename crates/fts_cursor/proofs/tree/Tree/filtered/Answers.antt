-- A tree and a set that filters it; what a set has of a filtered tree's documents, once it met the set there was.
use Rattle.std.proofs.Common.{◌≡◌, sym, ap, subst, ◌∙◌}
use Rattle.std.specs.Box.{with_value}
use Rattle.std.specs.List.{filter}
use Rattle.std.specs.List.Sorted.{IsStrictlyIncreasing}
use Rattle.std.proofs.lemmas.Result.{IfOk-weaker}
use Rattle.fts_postings.specs.Sets.{has}
use Rattle.fts_sets.proofs.SetLemmas.{has-filter}
use Rattle.fts_cursor.specs.TreeValues.{TreeValue}
use Rattle.fts_cursor.specs.Trees.{tree_value, value_of}
use Rattle.fts_cursor.specs.declared.tree.filtered_tree.FilteredTree.{FilteredTree}
use Rattle.fts_cursor.specs.declared.tree.Node.TheVariants.{Filtered}
use Rattle.fts_cursor.proofs.CutLemmas.{filter-both}
use Rattle.fts_cursor.proofs.TreeLemmas.{filtered_stands}
use Rattle.fts_cursor.proofs.tree.Tree.filtered.Goals as goal

pub invariant_of-result-in-Filtered : goal.invariant_of-result-in-Filtered
invariant_of-result-in-Filtered c =
    let filtered : FilteredTree = record { tree = with_value c.in-Filtered.filtered.tree c.settle-doc.new.tree; set = c.meet.new.self } in
    let stands = filtered_stands c.settle-doc.result filtered c.settle-doc.ensures.settled in
    record { first = stands.first; rises = stands.rises; stands = stands }

pub returns-in_ok-meet-in-Filtered-clause-remaining : goal.returns-in_ok-meet-in-Filtered-clause-remaining
returns-in_ok-meet-in-Filtered-clause-remaining c =
    let f = c.in-Filtered.filtered in
    let other = has c.args.set in
    let is : tree_value (Filtered f) ≡ c.args.tree = ap tree_value (sym c.in-Filtered.is ∙ c.deref_mut.ensures.value) ∙ ap value_of (sym c.in-Cursor.is)
    ∙ c.tree.view_is in
    c.settle-doc.ensures.same ∙ ap (λ (s : TreeValue). filter (has c.meet.new.self) s.remaining) c.deref_mut-in-Filtered.ensures.value
    ∙ filter-both (has f.set) (has c.meet.new.self) other
    (λ doc. ap (λ xs. has xs doc) c.in_ok-meet-in-Filtered.ensures ∙ has-filter other f.set doc) f.tree.value.remaining
    ∙ ap (λ (s : TreeValue). filter other s.remaining) is

pub returns-in_ok-meet-in-Filtered-clause-rises : goal.returns-in_ok-meet-in-Filtered-clause-rises
returns-in_ok-meet-in-Filtered-clause-rises c =
    let filtered : FilteredTree = record { tree = with_value c.in-Filtered.filtered.tree c.settle-doc.new.tree; set = c.meet.new.self } in
    (filtered_stands c.settle-doc.result filtered c.settle-doc.ensures.settled).rises

pub of-requires : goal.of-requires
of-requires c = filtered_stands _ _ c.settle-doc-in_default-deref_mut.ensures.settled

pub returns-in_ok-tree-in_default-deref_mut-clause-remaining : goal.returns-in_ok-tree-in_default-deref_mut-clause-remaining
returns-in_ok-tree-in_default-deref_mut-clause-remaining c =
    let is = ap value_of (sym c.in-Cursor.is) ∙ c.tree.view_is in
    IfOk-weaker c.of.result _ _ (λ (t : TreeValue) found. ap (λ (s : TreeValue). s.remaining) found ∙ c.settle-doc-in_default-deref_mut.ensures.same
    ∙ ap (λ (s : TreeValue). filter (has c.args.set) s.remaining)
    (c.deref_mut-in_default-deref_mut.ensures.value ∙ c.in_ok-tree-in_default-deref_mut.ensures.ok ∙ ap tree_value c.deref_mut.ensures.value ∙ is)) c.of.ensures

pub returns-in_ok-tree-in_default-deref_mut-clause-rises : goal.returns-in_ok-tree-in_default-deref_mut-clause-rises
returns-in_ok-tree-in_default-deref_mut-clause-rises c =
    let filtered : FilteredTree = record {
      tree = with_value c.in_ok-tree-in_default-deref_mut.tree c.settle-doc-in_default-deref_mut.new.tree;
      set = c.args.set;
    } in
    let stands = filtered_stands c.settle-doc-in_default-deref_mut.result filtered c.settle-doc-in_default-deref_mut.ensures.settled in
    IfOk-weaker c.of.result _ _ (λ (t : TreeValue) is. subst (λ (s : TreeValue). IsStrictlyIncreasing s.remaining) (sym is) stands.rises) c.of.ensures
