-- One test more, or a clause.
use Rattle.std.proofs.Common.{◌≡◌, length, ap, ◌∙◌, arith}
use Rattle.std.specs.List.{filter}
use Rattle.std.proofs.lemmas.Result.{IfOk-weaker}
use Rattle.fts_postings.specs.Windows.{passing}
use Rattle.fts_sets.specs.Leaves.{is_told, leaf_has, one_has}
use Rattle.fts_sets.proofs.SetLemmas.{filter-agree}
use Rattle.fts_sets.proofs.ToldLemmas.{one_alone, told-any}
use Rattle.fts_sets.proofs.doc_id_set.DocIdSet.with_any.Goals as goal

pub returns-then-len-eq1 : goal.returns-then-len-eq1
returns-then-len-eq1 c =
    let leaves = c.args.leaves.items in
    let one : length leaves ≡ 1 = omega (arith, c.len.ensures, c.if-len-eq1.true) in
    IfOk-weaker c.with.result _ _ (λ x is. is ∙ filter-agree (leaf_has c.index.result.now) (one_has leaves) c.args.self.now
    (λ d. one_alone leaves c.index.result.now d one c.index.ensures)) c.with.ensures.kept

pub returns : goal.returns
returns c =
    let s = c.self.inside in
    ap (λ xs. passing (is_told s.docs s.all.items xs s.none.items) 0 s.docs) c.in_ok-push.ensures.items
    ∙ told-any s.docs s.all.items s.any.items s.none.items c.args.leaves ∙ ap (filter (one_has c.args.leaves.items)) c.self.view_is
