-- A Boolean query by the queries in it.
use Rattle.std.proofs.Common.{◌≡◌, ◌==◌, Bool, true, false, ◌&&◌, ◌||◌, not, List, [], ◌∷◌, length, map, refl, sym, ap, ◌∙◌, arith}
use Rattle.std.specs.List.{list_all, list_any}
use Rattle.std.proofs.lemmas.Bool.{eqb-true}
use Rattle.fts_model.specs.declared.schema.Field.{Field}
use Rattle.fts_model.specs.declared.query.Query.{Query}
use Rattle.fts_model.specs.declared.query.Query.TheOpen.{Query-F}
use Rattle.fts_model.specs.declared.query.Query.TheViews as views
use Rattle.fts_model.specs.declared.query.Query.TheVariants.{rolls-Bool}
use Rattle.fts_model.specs.declared.query.Query.TheFolds.{fold-roll-Query}
use Rattle.fts_model.specs.Documents.{DocumentValue}
use Rattle.fts_model.specs.QueryValues.{QueryValue, boolean, query_list, value_by_parts, query_value}
use Rattle.fts_model.specs.Queries.{query_fits, all_fit, matches, all_match, any_matches, are_some, is_nonempty}

-- whether a query of the code fits a schema
abbrev pub fits_in : List Field → Query → Bool
fits_in schema q = query_fits schema (query_value q)

-- whether a query of the code matches a document
abbrev pub matches_in : List Field → DocumentValue → Query → Bool
matches_in schema document q = matches schema document (query_value q)

-- the value of a Boolean query
pub value_at_bool : (must must_not should : _) →
    query_value (views.Bool must must_not should)
    ≡ boolean (query_list (map query_value must.items)) (query_list (map query_value must_not.items)) (query_list (map query_value should.items))
value_at_bool must must_not should =
    ap query_value (sym (rolls-Bool must must_not should)) ∙ fold-roll-Query QueryValue value_by_parts (Query-F.Bool must must_not should)

-- all of some queries fit, by the list
all_fit-list : (schema : List Field) (qs : List Query) → all_fit schema (query_list (map query_value qs)) ≡ list_all (fits_in schema) qs
all_fit-list schema [] = refl
all_fit-list schema (q ∷ qs) = ap (λ b. fits_in schema q && b) (all_fit-list schema qs)

-- all of some queries match, by the list
all_match-list : (schema : List Field) (document : DocumentValue) (qs : List Query) →
    all_match schema document (query_list (map query_value qs)) ≡ list_all (matches_in schema document) qs
all_match-list schema document [] = refl
all_match-list schema document (q ∷ qs) = ap (λ b. matches_in schema document q && b) (all_match-list schema document qs)

-- one of some queries matches, by the list
any_matches-list : (schema : List Field) (document : DocumentValue) (qs : List Query) →
    any_matches schema document (query_list (map query_value qs)) ≡ list_any (matches_in schema document) qs
any_matches-list schema document [] = refl
any_matches-list schema document (q ∷ qs) = ap (λ b. matches_in schema document q || b) (any_matches-list schema document qs)

-- a list of queries is nonempty exactly if its value is
are_some-list : (qs : List Query) → are_some (query_list (map query_value qs)) ≡ is_nonempty qs
are_some-list [] = refl
are_some-list (q ∷ qs) = refl

-- a conjunction of three tests that each equal another
all_three : {a b c d e f : Bool} → a ≡ d → b ≡ e → c ≡ f → (a && b && c) ≡ (d && e && f)
all_three p q r = cc

-- a Boolean query fits if each query in it does
pub query_fits_at_bool : (schema : List Field) (must must_not should : _) →
    fits_in schema (views.Bool must must_not should)
    ≡ (list_all (fits_in schema) must.items && list_all (fits_in schema) must_not.items && list_all (fits_in schema) should.items)
query_fits_at_bool schema must must_not should =
    ap (query_fits schema) (value_at_bool must must_not should)
    ∙ all_three (all_fit-list schema must.items) (all_fit-list schema must_not.items) (all_fit-list schema should.items)

-- if the first two tests pass, the third decides
pub last_of_three : (a b c r : Bool) → a ≡ true → b ≡ true → r ≡ c → r ≡ (a && b && c)
last_of_three true true c r p q e = e
last_of_three true false c r p q e = cc
last_of_three false b c r p q e = cc

-- if one of the first two tests fails, the conjunction fails
pub first_two_false : (a b c r : Bool) → (a && b) ≡ false → r ≡ false → r ≡ (a && b && c)
first_two_false true true c r p e = cc
first_two_false true false c r p e = e
first_two_false false b c r p e = e

-- a Boolean query's test, by equal tests of its parts
all_of_parts : {a b c d e f g h : Bool} → a ≡ e → b ≡ f → c ≡ g → d ≡ h → (a && not b && (c || d)) ≡ (e && not f && (g || h))
all_of_parts p q r s = cc

-- a Boolean query matches if all of its musts, none of its must-nots and, with no must, one of its shoulds match
pub matches_at_bool : (schema : List Field) (document : DocumentValue) (must must_not should : _) →
    matches_in schema document (views.Bool must must_not should)
    ≡ (list_all (matches_in schema document) must.items && not (list_any (matches_in schema document) must_not.items) &&
    (is_nonempty must.items || list_any (matches_in schema document) should.items))
matches_at_bool schema document must must_not should =
    ap (matches schema document) (value_at_bool must must_not should)
    ∙ all_of_parts (all_match-list schema document must.items) (any_matches-list schema document must_not.items)
    (are_some-list must.items) (any_matches-list schema document should.items)

-- if one bit is the negation of another, the other is the negation of the one
pub flipped : (a b : Bool) → b ≡ not a → a ≡ not b
flipped true b h = sym (ap not h)
flipped false b h = sym (ap not h)

-- a Boolean query does not match if some must does not
pub not_all_must : (a b c d : Bool) → a ≡ false → (a && not b && (c || d)) ≡ false
not_all_must true b c d h = cc
not_all_must false b c d h = refl

-- a Boolean query does not match if a must-not does
pub one_must_not : (a b c d : Bool) → b ≡ true → (a && not b && (c || d)) ≡ false
one_must_not true true c d h = refl
one_must_not false true c d h = refl
one_must_not a false c d h = cc

-- a Boolean query matches if it has musts, all of them match, and no must-not does
pub musts_suffice : (a b c d : Bool) → a ≡ true → b ≡ false → c ≡ true → (a && not b && (c || d)) ≡ true
musts_suffice true false true d p q r = refl
musts_suffice true false false d p q r = cc
musts_suffice true true c d p q r = cc
musts_suffice false b c d p q r = cc

-- with no must and no matching must-not, the shoulds decide
pub shoulds_decide : (a b c d : Bool) → a ≡ true → b ≡ false → c ≡ false → (a && not b && (c || d)) ≡ d
shoulds_decide true false false d p q r = refl
shoulds_decide true false true d p q r = cc
shoulds_decide true true c d p q r = cc
shoulds_decide false b c d p q r = cc

-- a list of a positive length has a member
pub is_nonempty-length : {X : Type 0} (xs : List X) → (length xs == 0) ≡ false → is_nonempty xs ≡ true
is_nonempty-length [] h = cc
is_nonempty-length (x ∷ xs) h = refl

-- a list of length 0 has no member
pub is_nonempty-none : {X : Type 0} (xs : List X) → (length xs == 0) ≡ true → is_nonempty xs ≡ false
is_nonempty-none [] h = refl
is_nonempty-none (x ∷ xs) h = absurd (omega (arith, eqb-true (length (x ∷ xs)) 0 h))
