-- One test more.
use Rattle.std.proofs.Common.{ap, not, ◌∙◌}
use Rattle.std.specs.List.{filter}
use Rattle.fts_postings.specs.Windows.{passing}
use Rattle.fts_sets.specs.Leaves.{is_told, leaf_has}
use Rattle.fts_sets.proofs.ToldLemmas.{told-without}
use Rattle.fts_sets.proofs.doc_id_set.DocIdSet.without.Goals as goal

pub returns : goal.returns
returns c =
    let s = c.self.inside in
    ap (λ xs. passing (is_told s.docs s.all.items s.any.items xs) 0 s.docs) c.in_ok-push.ensures.items
    ∙ told-without s.docs s.all.items s.any.items s.none.items c.args.leaf ∙ ap (filter (λ d. not (leaf_has c.args.leaf d))) c.self.view_is
