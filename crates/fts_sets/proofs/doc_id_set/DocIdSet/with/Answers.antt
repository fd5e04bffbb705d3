-- One test more.
use Rattle.std.proofs.Common.{ap, sym, ◌∙◌}
use Rattle.std.specs.List.{filter}
use Rattle.fts_sets.specs.declared.leaf.Leaf.{Leaf}
use Rattle.fts_sets.specs.Leaves.{is_told, leaf_has}
use Rattle.fts_postings.specs.Windows.{passing}
use Rattle.fts_sets.proofs.ToldLemmas.{told-below, told-first, told-with}
use Rattle.fts_sets.proofs.doc_id_set.DocIdSet.with.Goals as goal

pub returns-in-Below-clause-kept : goal.returns-in-Below-clause-kept
returns-in-Below-clause-kept c =
    let s = c.self.inside in
    ap (λ m. passing (is_told m s.all.items s.any.items s.none.items) 0 m) c.min-self-inside.ensures
    ∙ told-below s.docs s.all.items s.any.items s.none.items c.in-Below.docs
    ∙ ap (λ (l : Leaf). filter (leaf_has l) (passing (is_told s.docs s.all.items s.any.items s.none.items) 0 s.docs)) (sym c.in-Below.is)
    ∙ ap (filter (leaf_has c.args.leaf)) c.self.view_is

pub returns-in_ok-insert-in-Set : goal.returns-in_ok-insert-in-Set
returns-in_ok-insert-in-Set c =
    let s = c.self.inside in
    record {
      kept = ap (λ xs. passing (is_told s.docs xs s.any.items s.none.items) 0 s.docs) c.in_ok-insert-in-Set.ensures.items
          ∙ told-first s.docs s.all.items s.any.items s.none.items c.args.leaf ∙ ap (filter (leaf_has c.args.leaf)) c.self.view_is;
      failed = tt;
    }

pub returns-in_ok-push-in-Within : goal.returns-in_ok-push-in-Within
returns-in_ok-push-in-Within c =
    let s = c.self.inside in
    record {
      kept = ap (λ xs. passing (is_told s.docs xs s.any.items s.none.items) 0 s.docs) c.in_ok-push-in-Within.ensures.items
          ∙ told-with s.docs s.all.items s.any.items s.none.items c.args.leaf ∙ ap (filter (leaf_has c.args.leaf)) c.self.view_is;
      failed = tt;
    }
