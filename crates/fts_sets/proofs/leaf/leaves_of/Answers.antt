-- One test more.
use Rattle.std.proofs.Common.{◌&&◌, ◌||◌, ◌∷◌, [], Bool, List, sym, ap, ap₂, ◌∙◌}
use Rattle.std.specs.Borrow.{Bor}
use Rattle.std.proofs.Math.Bool.{and-true, or-false}
use Rattle.std.proofs.lemmas.List.{take_all}
use Rattle.std.proofs.lemmas.List.Folds.{list_all-append, list_all_more, list_any-append, list_any_more}
use Rattle.fts_postings.specs.Windows.{is_set}
use Rattle.fts_sets.specs.declared.leaf.Leaf.{Leaf}
use Rattle.fts_sets.specs.declared.leaf.Leaf.TheVariants.{Set}
use Rattle.fts_sets.specs.Leaves.{all_have, in_each, in_one, leaf_has, one_has}
use Rattle.fts_sets.proofs.leaf.leaves_of.Goals as goal

pub loop-bits-init : goal.loop-bits-init
loop-bits-init c = record {
  one = λ d. ap (λ xs. one_has xs d) c.in_ok-leaves.ensures.items;
  all = λ d. ap (λ xs. all_have xs d) c.in_ok-leaves.ensures.items;
}

pub loop-bits-preserved : goal.loop-bits-preserved
loop-bits-preserved c =
    let l = c.loop-bits in
    let list = c.args.list.now in
    let bits = c.bits-item.result in
    let more = Set bits ∷ [] in
    record {
      one = λ d. ap (λ xs. one_has xs d) c.in_ok-push.ensures.items ∙ list_any-append (λ (x : Leaf). leaf_has x d) l.leaves.items more
          ∙ ap₂ (λ a b. a || b) (l.invariant.one d) (or-false (is_set bits.now d) ∙ ap (λ (b : Bor (List Bool)). is_set b.now d) c.bits-item.is)
          ∙ sym (list_any_more (λ (b : Bor (List Bool)). is_set b.now d) list l.bits-index bits c.loop-bits-test.true);
      all = λ d. ap (λ xs. all_have xs d) c.in_ok-push.ensures.items ∙ list_all-append (λ (x : Leaf). leaf_has x d) l.leaves.items more
          ∙ ap₂ (λ a b. a && b) (l.invariant.all d) (and-true (is_set bits.now d) ∙ ap (λ (b : Bor (List Bool)). is_set b.now d) c.bits-item.is)
          ∙ sym (list_all_more (λ (b : Bor (List Bool)). is_set b.now d) list l.bits-index bits c.loop-bits-test.true);
    }

pub returns-clause-one : goal.returns-clause-one
returns-clause-one c d = c.loop-bits.invariant.one d ∙ ap (λ xs. in_one xs d) (take_all c.loop-bits.bits-index c.args.list.now c.loop-bits-test.false)

pub returns-clause-all : goal.returns-clause-all
returns-clause-all c d = c.loop-bits.invariant.all d ∙ ap (λ xs. in_each xs d) (take_all c.loop-bits.bits-index c.args.list.now c.loop-bits-test.false)
