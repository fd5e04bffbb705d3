-- The two tests tell the documents, and none passes them that is at or beyond their number.
use Rattle.std.proofs.Common.{◌≡◌, ◌&&◌, List, [], ◌∷◌, length, get_or, true, sym, ap, ap₂, ◌∙◌, arith}
use Rattle.std.proofs.Math.Bool.{and-true}
use Rattle.fts_sets.specs.Leaves.{all_have, leaf_has}
use Rattle.fts_sets.specs.declared.leaf.Leaf.{Leaf}
use Rattle.fts_sets.proofs.ToldLemmas.{now_sufficed}
use Rattle.fts_sets.proofs.doc_id_set.DocIdSet.within_set.Goals as goal

both : (leaves : List Leaf) (k l : Leaf) → length leaves ≡ 2 → k ≡ get_or leaves 0 k → l ≡ get_or leaves 1 l → leaves ≡ k ∷ l ∷ []
both [] k l two first second = absurd (omega (arith, two))
both (x ∷ []) k l two first second = absurd (omega (arith, two))
both (x ∷ y ∷ []) k l two first second = ap₂ (λ a b. a ∷ b ∷ []) (sym first) (sym second)
both (x ∷ y ∷ z ∷ xs) k l two first second = absurd (omega (arith, two))

pub returns : goal.returns
returns c = λ d.
    let s = c.self.inside in
    let all = s.all.items in
    let k = c.index.result.now in
    let l = c.index-2.result.now in
    let two : all ≡ k ∷ l ∷ [] = both all k l (omega (arith, c.len.ensures, c.if-len-ne2.false)) c.index.ensures c.index-2.ensures in
    now_sufficed s.docs all s.any.items s.none.items c.args.self.now c.self.view_is _ _ _ c.deref.ensures.value c.deref-else-len-ne2.ensures.value
    c.deref-else-len-ne2-2.ensures.value (c.suffice.ensures c.if-not-suffice.false) d
    ∙ ap (λ xs. all_have xs d) two
    ∙ ap₂ (λ a b. leaf_has a d && (leaf_has b d && true)) c.in-Within.is c.in-Set.is
    ∙ ap (λ b. leaf_has (Leaf.Within c.in-Within.column c.in-Within.low c.in-Within.high) d && b) (and-true (leaf_has (Leaf.Set c.in-Set.bits) d))
