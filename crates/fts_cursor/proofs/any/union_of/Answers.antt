-- What bits tell is one part more.
use Rattle.std.proofs.Common.{◌||◌, ◌++◌, ◌∷◌, [], None, sym, ap, subst, ◌∙◌, arith}
use Rattle.std.proofs.lemmas.Bool.{eqb-true}
use Rattle.std.proofs.lemmas.List.{nil_from_length}
use Rattle.std.proofs.lemmas.Result.{IfOk-weaker}
use Rattle.fts_pack.specs.Documents.{Rises}
use Rattle.fts_postings.specs.Bounds.{Bound, most_at}
use Rattle.fts_postings.specs.Sets.{has, in_some}
use Rattle.fts_postings.proofs.UnionLemmas.{Rises-union, has-union}
use Rattle.fts_sets.specs.Leaves.{in_one}
use Rattle.fts_cursor.specs.TreeValues.{remains}
use Rattle.fts_cursor.proofs.ShouldsLemmas.{most_push, or_other, remains_push}
use Rattle.fts_cursor.proofs.any.union_of.Goals as goal

pub returns-then-is_empty-clause-has : goal.returns-then-is_empty-clause-has
returns-then-is_empty-clause-has c =
    let parts = c.args.shoulds.parts.items in
    let none = nil_from_length c.args.shoulds.bits.items (omega (arith, eqb-true c.args.shoulds.bits.len 0 (sym c.is_empty.ensures ∙ c.if-is_empty.true))) in
    IfOk-weaker c.or.result _ _ (λ t is d. ap (λ xs. has xs d) is ∙ has-union (remains parts) d
    ∙ ap (λ bits. in_one bits d || in_some (remains parts) d) (sym none)) c.or.ensures.remaining

pub returns-then-is_empty-clause-rises : goal.returns-then-is_empty-clause-rises
returns-then-is_empty-clause-rises c =
    IfOk-weaker c.or.result _ _ (λ t is. subst (Rises 0) (sym is) (Rises-union (remains c.args.shoulds.parts.items))) c.or.ensures.remaining

pub returns-clause-has : goal.returns-clause-has
returns-clause-has c =
    let parts = c.args.shoulds.parts.items in
    let told = c.in_ok-told.told in
    IfOk-weaker c.or-2.result _ _ (λ t is d. ap (λ xs. has xs d) is ∙ has-union (remains (parts ++ told ∷ [])) d
    ∙ remains_push parts told d ∙ ap (λ b. in_some (remains parts) d || b) (c.in_ok-told.ensures.has d)
    ∙ or_other (in_some (remains parts) d) (in_one c.args.shoulds.bits.items d)) (rw c.in_ok-push.ensures.items at c.or-2.ensures.remaining)

pub returns-clause-rises : goal.returns-clause-rises
returns-clause-rises c =
    let all = c.args.shoulds.parts.items ++ c.in_ok-told.told ∷ [] in
    IfOk-weaker c.or-2.result _ _ (λ t is. subst (Rises 0) (sym is) (Rises-union (remains all))) (rw c.in_ok-push.ensures.items at c.or-2.ensures.remaining)

pub returns-clause-most : goal.returns-clause-most
returns-clause-most c =
    let none = ap (λ (b : Bound). most_at b None) c.in_ok-told.ensures.bound in
    IfOk-weaker c.or-2.result _ _ (λ t is. omega (arith, is, most_push c.args.shoulds.parts.items c.in_ok-told.told, none))
    (rw c.in_ok-push.ensures.items at c.or-2.ensures.most)
