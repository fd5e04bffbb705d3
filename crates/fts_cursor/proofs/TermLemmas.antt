-- The terms that queries are, alone or as their only should.
use Rattle.std.proofs.Common.{◌≡◌, ◌≢◌, None, List, [], ◌∷◌, length, get_or, map, arith, refl, sym, ap}
use Rattle.fts_model.specs.QueryValues.{QueryValue, QueryValues, every, nothing, term, phrase, range, boolean, no_queries, queries, query_list, query_value}
use Rattle.fts_model.specs.declared.query.Query.{Query}
use Rattle.fts_model.specs.declared.operation.Term.{Term}
use Rattle.fts_cursor.specs.Builds.{only_term_in, term_in}

-- a Boolean query whose only member is this term as a should
abbrev alone : Term → QueryValue
alone t = boolean no_queries no_queries (queries (term t) no_queries)

-- where there isn't one query alone, or there are musts or must-nots, there is no term
two_values : (q r : QueryValue) (qs : QueryValues) → only_term_in (queries q (queries r qs)) ≡ None
two_values (term t) r qs = refl
two_values every r qs = refl
two_values nothing r qs = refl
two_values (phrase field pattern) r qs = refl
two_values (range field lower upper) r qs = refl
two_values (boolean must must_not should) r qs = refl

pub not_one : (qs : List Query) → length qs ≢ 1 → only_term_in (query_list (map query_value qs)) ≡ None
not_one [] other = refl
not_one (q ∷ []) other = absurd (other refl)
not_one (q ∷ (r ∷ qs)) other = two_values (query_value q) (query_value r) (query_list (map query_value qs))

pub one_alone : (qs : List Query) (q : Query) → length qs ≡ 1 → q ≡ get_or qs 0 q → query_list (map query_value qs) ≡ queries (query_value q) no_queries
one_alone [] q one is = absurd (omega (arith, one))
one_alone (x ∷ []) q one is = ap (λ y. queries (query_value y) no_queries) (sym is)
one_alone (x ∷ (y ∷ qs)) q one is = absurd (omega (arith, one))

pub with_musts : (must must_not should : List Query) → length must ≢ 0 →
    term_in (boolean (query_list (map query_value must)) (query_list (map query_value must_not)) (query_list (map query_value should))) ≡ None
with_musts [] must_not should some = absurd (some refl)
with_musts (q ∷ qs) must_not should some = refl

pub with_must_nots : (must must_not should : List Query) → length must ≡ 0 → length must_not ≢ 0 →
    term_in (boolean (query_list (map query_value must)) (query_list (map query_value must_not)) (query_list (map query_value should))) ≡ None
with_must_nots [] [] should none some = absurd (some refl)
with_must_nots [] (q ∷ qs) should none some = refl
with_must_nots (q ∷ qs) must_not should none some = absurd (omega (arith, none))

pub shoulds_alone : (must must_not should : List Query) → length must ≡ 0 → length must_not ≡ 0 →
    term_in (boolean (query_list (map query_value must)) (query_list (map query_value must_not)) (query_list (map query_value should)))
    ≡ only_term_in (query_list (map query_value should))
shoulds_alone [] [] should none gone = refl
shoulds_alone [] (q ∷ qs) should none gone = absurd (omega (arith, gone))
shoulds_alone (q ∷ qs) must_not should none gone = absurd (omega (arith, none))
