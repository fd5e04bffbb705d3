-- The first tests, and the rest of them.
use Rattle.std.proofs.Common.{◌≡◌, ◌&&◌, true, false, sym, ap, ap₂, ◌∙◌}
use Rattle.fts_sets.specs.Leaves.{all_have, rest_has}
use Rattle.fts_sets.proofs.ToldLemmas.{now_parts}
use Rattle.fts_sets.proofs.doc_id_set.DocIdSet.has.Goals as goal

pub returns-then-all_have : goal.returns-then-all_have
returns-then-all_have c =
    let s = c.self.inside in
    let x = c.args.doc in
    let all : all_have s.all.items x ≡ true = sym (c.all_have.ensures ∙ ap (λ ls. all_have ls x) c.deref.ensures.value) ∙ c.if-all_have.true in
    c.rest_has.ensures
    ∙ ap₂ (λ any none. rest_has s.docs any none x) c.deref-then-all_have.ensures.value c.deref-then-all_have-2.ensures.value
    ∙ sym (now_parts s.docs s.all.items s.any.items s.none.items c.args.self.now c.self.view_is x ∙ ap (λ b. b && rest_has s.docs s.any.items s.none.items x) all)

pub returns-else-all_have : goal.returns-else-all_have
returns-else-all_have c =
    let s = c.self.inside in
    let x = c.args.doc in
    let no : all_have s.all.items x ≡ false = sym (c.all_have.ensures ∙ ap (λ ls. all_have ls x) c.deref.ensures.value) ∙ c.if-all_have.false in
    c.if-all_have.false
    ∙ sym (now_parts s.docs s.all.items s.any.items s.none.items c.args.self.now c.self.view_is x ∙ ap (λ b. b && rest_has s.docs s.any.items s.none.items x) no)
