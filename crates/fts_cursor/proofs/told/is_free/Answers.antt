-- A Boolean query by its clauses.
use Rattle.std.proofs.Common.{◌≡◌, ◌<◌, not, length, map, ap, sym, ◌∙◌, arith}
use Rattle.std.specs.List.{list_all}
use Rattle.std.proofs.lemmas.Bool.{eqb-true}
use Rattle.fts_model.specs.QueryValues.{query_list, query_value}
use Rattle.fts_model.proofs.QueriesBoolean.{value_at_bool}
use Rattle.fts_cursor.specs.Builds.{is_term}
use Rattle.fts_cursor.specs.Most.{are_mixed, is_free}
use Rattle.fts_cursor.proofs.BoolHits.{some_from}
use Rattle.fts_cursor.proofs.OpensLemmas.{free_apart, free_musts, free_shoulds}
use Rattle.fts_cursor.proofs.told.is_free.Goals as goal

pub returns-then-not-is_empty : goal.returns-then-not-is_empty
returns-then-not-is_empty c =
    let b = c.in-Bool in
    let some : 0 < length b.must_not.items = omega (arith, some_from b.must_not.len (sym c.is_empty.ensures ∙ c.if-not-is_empty.true)) in
    sym (ap is_free (ap query_value b.is ∙ value_at_bool b.must b.must_not b.should) ∙ free_apart b.must.items b.must_not.items b.should.items some)

pub returns-then-not-is_empty-2 : goal.returns-then-not-is_empty-2
returns-then-not-is_empty-2 c =
    let b = c.in-Bool in
    let none : length b.must_not.items ≡ 0 = omega (arith, eqb-true b.must_not.len 0 (sym c.is_empty.ensures ∙ c.if-not-is_empty.false)) in
    let some : 0 < length b.must.items = omega (arith, some_from b.must.len (sym c.is_empty-in-Bool.ensures ∙ c.if-not-is_empty-2.true)) in
    ap not (c.are_terms.ensures ∙ ap (list_all (λ q. is_term (query_value q))) c.deref.ensures.value)
    ∙ sym (ap is_free (ap query_value b.is ∙ value_at_bool b.must b.must_not b.should) ∙ free_musts b.must.items b.must_not.items b.should.items none some)

pub returns-else-not-is_empty-2 : goal.returns-else-not-is_empty-2
returns-else-not-is_empty-2 c =
    let b = c.in-Bool in
    let none : length b.must_not.items ≡ 0 = omega (arith, eqb-true b.must_not.len 0 (sym c.is_empty.ensures ∙ c.if-not-is_empty.false)) in
    let empty : length b.must.items ≡ 0 = omega (arith, eqb-true b.must.len 0 (sym c.is_empty-in-Bool.ensures ∙ c.if-not-is_empty-2.false)) in
    c.are_mixed.ensures ∙ ap (λ qs. are_mixed (query_list (map query_value qs))) c.deref-in-Bool.ensures.value
    ∙ sym (ap is_free (ap query_value b.is ∙ value_at_bool b.must b.must_not b.should) ∙ free_shoulds b.must.items b.must_not.items b.should.items none empty)
