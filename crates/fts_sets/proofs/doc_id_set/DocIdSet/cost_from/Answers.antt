-- No more are left than there are numbers.
use Rattle.std.proofs.Common.{ap, subst, sym, ◌∙◌, arith}
use Rattle.fts_pack.specs.Documents.{Rises}
use Rattle.fts_postings.specs.Sets.{has}
use Rattle.fts_sets.proofs.SetLemmas.{length-from}
use Rattle.fts_sets.proofs.ToldLemmas.{told-past, told-rises, told_at}
use Rattle.fts_sets.proofs.doc_id_set.DocIdSet.cost_from.Goals as goal

pub returns : goal.returns
returns c =
    let s = c.self.inside in
    let few = length-from c.args.self.now s.docs c.args.from (subst (Rises 0) c.self.view_is (told-rises s.docs s.all.items s.any.items s.none.items))
    (λ d past. sym (ap (λ xs. has xs d) c.self.view_is) ∙ told_at s.docs s.all.items s.any.items s.none.items d
    ∙ told-past s.docs s.all.items s.any.items s.none.items d past) in
    omega (arith, few, c.saturating_sub.ensures)
