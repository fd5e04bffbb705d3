-- The one test tells the documents, and none passes it that is at or beyond their number.
use Rattle.std.proofs.Common.{◌≡◌, List, [], ◌∷◌, length, get_or, sym, ap, ◌∙◌, arith}
use Rattle.std.proofs.Math.Bool.{and-true}
use Rattle.fts_sets.specs.Leaves.{all_have, leaf_has}
use Rattle.fts_sets.specs.declared.leaf.Leaf.{Leaf}
use Rattle.fts_sets.proofs.ToldLemmas.{now_sufficed}
use Rattle.fts_sets.proofs.doc_id_set.DocIdSet.bits.Goals as goal

alone : (leaves : List Leaf) (l : Leaf) → length leaves ≡ 1 → l ≡ get_or leaves 0 l → leaves ≡ l ∷ []
alone [] l one is = absurd (omega (arith, one))
alone (x ∷ []) l one is = ap (λ y. y ∷ []) (sym is)
alone (x ∷ y ∷ xs) l one is = absurd (omega (arith, one))

pub returns-in-Set : goal.returns-in-Set
returns-in-Set c = λ d.
    let s = c.self.inside in
    let all = s.all.items in
    let leaf = c.index.result.now in
    let one : all ≡ leaf ∷ [] = alone all leaf (omega (arith, c.len.ensures, c.if-len-ne1.false)) c.index.ensures in
    now_sufficed s.docs all s.any.items s.none.items c.args.self.now c.self.view_is _ _ _ c.deref.ensures.value c.deref-else-len-ne1.ensures.value
    c.deref-else-len-ne1-2.ensures.value (c.suffice.ensures c.if-not-suffice.false) d
    ∙ ap (λ xs. all_have xs d) one ∙ and-true (leaf_has leaf d) ∙ ap (λ l. leaf_has l d) c.in-Set.is
