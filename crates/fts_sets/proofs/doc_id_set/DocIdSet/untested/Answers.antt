-- There is no test, so each of the first is one.
use Rattle.std.proofs.Common.{◌≡◌, [], sym, ◌∙◌, arith}
use Rattle.std.proofs.lemmas.Bool.{eqb-true}
use Rattle.std.proofs.lemmas.List.{nil_from_length}
use Rattle.fts_sets.proofs.ToldLemmas.{told-every}
use Rattle.fts_sets.proofs.doc_id_set.DocIdSet.untested.Goals as goal

pub returns-then-is_empty-3 : goal.returns-then-is_empty-3
returns-then-is_empty-3 c =
    let s = c.self.inside in
    let all : s.all.items ≡ [] = nil_from_length s.all.items (omega (arith, eqb-true s.all.len 0 (sym c.is_empty.ensures ∙ c.if-is_empty.true))) in
    let any : s.any.items ≡ [] = nil_from_length s.any.items (omega (arith, eqb-true s.any.len 0 (sym c.is_empty-then-is_empty.ensures ∙ c.if-is_empty-2.true))) in
    let none : s.none.items ≡ [] = nil_from_length s.none.items (omega (arith, eqb-true s.none.len 0 (sym c.is_empty-then-is_empty-2.ensures ∙ c.if-is_empty-3.true))) in
    (sym c.self.view_is ∙ told-every s.docs s.all.items s.any.items s.none.items all any none, c.self.invariant)
