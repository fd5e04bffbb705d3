-- A sum goes on by one part, a part isn't as deep as all, and what is found is some of what leads.
use Rattle.std.proofs.Common.{◌≡◌, ◌*◌, ◌<◌, List, length, ap, sym, ◌∙◌, arith}
use Rattle.std.proofs.lemmas.List.{take_all}
use Rattle.fts_postings.specs.Sets.{has, in_all, lacks, union}
use Rattle.fts_cursor.specs.TreeValues.{TreeValue, remains}
use Rattle.fts_cursor.specs.Trees.{tree_value, value_of}
use Rattle.fts_sets.specs.Rows.{found}
use Rattle.fts_cursor.specs.declared.tree.Node.TheVariants.{And, Filtered, Or, Without}
use Rattle.fts_cursor.proofs.PartsLemmas.{height_within}
use Rattle.fts_cursor.proofs.CostLemmas.{all_remaining, all_remaining-more, length-union}
use Rattle.fts_postings.proofs.CostLemmas.{length-filter-le, length-with_all}
use Rattle.fts_cursor.proofs.tree.+cost.Goals as goal

pub cost_in-cost-requires : goal.cost_in-cost-requires
cost_in-cost-requires t c =
    let less : 2 * c.part-item.result.height < t =
    omega (
      arith,
      height_within c.args.parts.now c.loop-part.part-index c.part-item.result c.loop-part-test.true,
      ap (λ s. s.height) c.part-item.is,
      c.decreases,
    ) in
    (less, tt)

pub cost_in-loop-part-preserved : goal.cost_in-loop-part-preserved
cost_in-loop-part-preserved t c =
    omega (
      arith,
      all_remaining-more c.args.parts.now c.loop-part.part-index c.part-item.result c.loop-part-test.true,
      ap (λ s. length s.remaining)
          c.part-item.is,
      c.cost.ensures.bound,
      c.loop-part.invariant,
    )

pub cost_in-returns : goal.cost_in-returns
cost_in-returns t c =
    omega (
      arith,
      length-union c.args.parts.now,
      ap all_remaining (take_all c.loop-part.part-index c.args.parts.now c.loop-part-test.false),
      c.loop-part.invariant,
    )

pub Tree::cost-returns-in-And-clause-bound : goal.Tree::cost-returns-in-And-clause-bound
Tree::cost-returns-in-And-clause-bound t c =
    let parts = c.in-And.parts in
    let is : tree_value (And parts) ≡ c.args.self.now = ap tree_value (sym c.in-And.is ∙ c.deref.ensures) ∙ ap value_of (sym c.in-Cursor.is) ∙ c.self.view_is in
    omega (
      arith,
      ap (λ (s : TreeValue). length s.remaining) is,
      length-filter-le (in_all (remains parts.others.items)) parts.lead.value.remaining,
      ap
          (λ (s : TreeValue). length s.remaining) c.deref-in-And.ensures,
      c.cost-in-And.ensures.bound,
    )

pub Tree::cost-returns-in-Without-clause-bound : goal.Tree::cost-returns-in-Without-clause-bound
Tree::cost-returns-in-Without-clause-bound t c =
    let parts = c.in-Without.parts in
    let is : tree_value (Without parts) ≡ c.args.self.now = ap tree_value (sym c.in-Without.is ∙ c.deref.ensures) ∙ ap value_of (sym c.in-Cursor.is)
    ∙ c.self.view_is in
    omega (
      arith,
      ap (λ (s : TreeValue). length s.remaining) is,
      length-filter-le (lacks parts.dropped.value.remaining) parts.kept.value.remaining,
      ap
          (λ (s : TreeValue). length s.remaining) c.deref-in-Without.ensures,
      c.cost-in-Without.ensures.bound,
    )

pub Tree::cost-returns-in-Filtered-clause-bound : goal.Tree::cost-returns-in-Filtered-clause-bound
Tree::cost-returns-in-Filtered-clause-bound t c =
    let f = c.in-Filtered.filtered in
    let is : tree_value (Filtered f) ≡ c.args.self.now = ap tree_value (sym c.in-Filtered.is ∙ c.deref.ensures) ∙ ap value_of (sym c.in-Cursor.is)
    ∙ c.self.view_is in
    omega (
      arith,
      ap (λ (s : TreeValue). length s.remaining) is,
      length-filter-le (has f.set) f.tree.value.remaining,
      ap
          (λ (s : TreeValue). length s.remaining) c.deref-in-Filtered.ensures,
      c.cost-in-Filtered.ensures.bound,
    )

pub Tree::cost-returns-in-Or-clause-bound : goal.Tree::cost-returns-in-Or-clause-bound
Tree::cost-returns-in-Or-clause-bound t c =
    let buffered = c.in-Or.buffered in
    let is : tree_value (Or buffered) ≡ c.args.self.now = ap tree_value (sym c.in-Or.is ∙ c.deref.ensures) ∙ ap value_of (sym c.in-Cursor.is)
    ∙ c.self.view_is in
    let parts = ap (λ (items : List TreeValue). length (union (remains items))) c.deref-in-Or.ensures.value in
    omega (
      arith,
      ap (λ (s : TreeValue). length s.remaining) is,
      length-with_all (found buffered.window) (union (remains buffered.parts.items)),
      c.cost-in-Or.ensures,
      c.cost_in.ensures,
      parts,
      c.saturating_add.ensures,
    )
