-- None is told that is the number or more.
use Rattle.std.proofs.Common.{ap, subst, sym, ◌∙◌}
use Rattle.fts_pack.specs.Documents.{Rises}
use Rattle.fts_postings.specs.Sets.{has}
use Rattle.fts_sets.proofs.ToldLemmas.{told-past, told-rises, told_at}
use Rattle.fts_sets.proofs.doc_id_set.DocIdSet.docs.Goals as goal

pub returns-clause-past : goal.returns-clause-past
returns-clause-past c d past =
    let s = c.self.inside in
    sym (ap (λ xs. has xs d) c.self.view_is) ∙ told_at s.docs s.all.items s.any.items s.none.items d
    ∙ told-past s.docs s.all.items s.any.items s.none.items d past

pub returns-clause-rises : goal.returns-clause-rises
returns-clause-rises c =
    let s = c.self.inside in
    subst (Rises 0) c.self.view_is (told-rises s.docs s.all.items s.any.items s.none.items)
