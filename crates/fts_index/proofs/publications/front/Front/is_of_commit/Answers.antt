use Rattle.std.proofs.Common.{List, ap, sym, subst, ◌∙◌, eq-eqb}
use Rattle.std.proofs.lemmas.Bool.{eqb-true}
use mathlib.Core.List.{IsPrefix}
use Rattle.fts_index.specs.declared.publications.publication.Publication.{Publication}
use Rattle.fts_index.proofs.PublicationsLemmas.{one_commit}
use Rattle.fts_index.proofs.publications.front.Front.is_of_commit.Goals as goal

pub returns-clause-one_list : goal.returns-clause-one_list
returns-clause-one_list c =
    let both = c.learn.new.self.log in (
      both,
      subst (λ (l : List Publication). IsPrefix l both) (ap (λ s. s.log) c.again-both.ensures ∙ ap (λ f. f.seen.list) c.self.view_is) c.learn.ensures.2,
      subst (λ (l : List Publication). IsPrefix l both) (ap (λ f. f.seen.list) c.other.view_is) c.learn.ensures.3,
    )

pub returns-clause-commit : goal.returns-clause-commit
returns-clause-commit c =
    let a = c.args.self.now in
    let b = c.args.other.now in
    let seen = returns-clause-one_list c in (
      λ same. one_commit a b seen.0 seen.1 seen.2 c.stamp.ensures.front c.stamp-2.ensures.front
          (sym c.stamp.ensures.stamp ∙ eqb-true c.stamp.result c.stamp-2.result same ∙ c.stamp-2.ensures.stamp),
      λ one. eq-eqb c.stamp.result c.stamp-2.result (c.stamp.ensures.stamp ∙ one.stamp ∙ sym c.stamp-2.ensures.stamp),
    )
