-- If there are musts or must-nots there is no term, and else the only should is one.
use Rattle.std.proofs.Common.{◌≡◌, ◌<◌, Some, None, length, map, ap, sym, subst, ◌∙◌, arith}
use Rattle.std.specs.Prelude.{MatchOption}
use Rattle.std.specs.Borrow.{Bor}
use Rattle.std.proofs.lemmas.Bool.{eqb-true}
use Rattle.fts_model.specs.QueryValues.{query_list, query_value}
use Rattle.fts_model.specs.declared.operation.Term.{Term}
use Rattle.fts_model.proofs.QueriesBoolean.{value_at_bool}
use Rattle.fts_cursor.specs.Builds.{only_term_in, term_in}
use Rattle.fts_cursor.proofs.BoolHits.{some_from}
use Rattle.fts_cursor.proofs.TermLemmas.{shoulds_alone, with_must_nots, with_musts}
use Rattle.fts_cursor.proofs.terms.term_of.Goals as goal

pub returns-then-not-is_empty : goal.returns-then-not-is_empty
returns-then-not-is_empty c =
    let b = c.in-Bool in
    let some : 0 < length b.must.items = omega (arith, some_from b.must.len (sym c.is_empty.ensures ∙ c.if-not-is_empty.true)) in
    ap term_in (ap query_value b.is ∙ value_at_bool b.must b.must_not b.should) ∙ with_musts b.must.items b.must_not.items b.should.items
    (λ e. omega (arith, some, e))

pub returns-then-not-is_empty-2 : goal.returns-then-not-is_empty-2
returns-then-not-is_empty-2 c =
    let b = c.in-Bool in
    let none : length b.must.items ≡ 0 = omega (arith, eqb-true b.must.len 0 (sym c.is_empty.ensures ∙ c.if-not-is_empty.false)) in
    let some : 0 < length b.must_not.items = omega (arith, some_from b.must_not.len (sym c.is_empty-in-Bool.ensures ∙ c.if-not-is_empty-2.true)) in
    ap term_in (ap query_value b.is ∙ value_at_bool b.must b.must_not b.should) ∙ with_must_nots b.must.items b.must_not.items b.should.items none
    (λ e. omega (arith, some, e))

pub returns-else-not-is_empty-2 : goal.returns-else-not-is_empty-2
returns-else-not-is_empty-2 c =
    let b = c.in-Bool in
    let none : length b.must.items ≡ 0 = omega (arith, eqb-true b.must.len 0 (sym c.is_empty.ensures ∙ c.if-not-is_empty.false)) in
    let gone : length b.must_not.items ≡ 0 = omega (arith, eqb-true b.must_not.len 0 (sym c.is_empty-in-Bool.ensures ∙ c.if-not-is_empty-2.false)) in
    let value = ap query_value b.is ∙ value_at_bool b.must b.must_not b.should in
    subst (λ v. MatchOption c.only_term.result (v ≡ None) (λ (t : Bor Term). v ≡ Some t.now))
    (ap (λ qs. only_term_in (query_list (map query_value qs))) c.deref.ensures.value ∙ sym (ap term_in value ∙ shoulds_alone b.must.items b.must_not.items
    b.should.items none gone))
    c.only_term.ensures
