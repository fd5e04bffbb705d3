-- How deep queries nest.
use Rattle.std.proofs.Common.{◌≡◌, ℕ, zero, suc, ◌+◌, ◌*◌, ◌<◌, ◌≤◌, max, Bool, true, List, [], ◌∷◌, length, map, get_or, ap, ◌∙◌, arith}
use Rattle.std.specs.List.{list_all}
use Rattle.std.proofs.lemmas.Bool.{and_parts}
use Rattle.fts_model.specs.declared.query.Query.{Query}
use Rattle.fts_model.specs.declared.query.Query.TheViews as views
use Rattle.fts_model.specs.QueryValues.{QueryValue, QueryValues, every, nothing, term, phrase, range, boolean, no_queries, queries, query_list, query_value}
use Rattle.fts_model.proofs.QueriesBoolean.{value_at_bool}

abbrev mutual
  pub depth : QueryValue → ℕ
  depth (boolean must must_not should) = suc (max (depth_all must) (max (depth_all must_not) (depth_all should)))
  depth every = 0
  depth nothing = 0
  depth (term t) = 0
  depth (phrase field pattern) = 0
  depth (range field lower upper) = 0

  pub depth_all : QueryValues → ℕ
  depth_all no_queries = 0
  depth_all (queries q qs) = max (depth q) (depth_all qs)

-- how deep a list of queries nests, as the code holds it
abbrev pub depth_of : List Query → ℕ
depth_of qs = depth_all (query_list (map query_value qs))

-- the queries in a Boolean query are less deep
pub parts_fall : (t : ℕ) (query : Query) (must must_not should : _) → query ≡ views.Bool must must_not should → 3 * depth (query_value query) + 0 ≡ t →
    (3 * depth_of must.items + 2 < t) × (3 * depth_of must_not.items + 2 < t) × (3 * depth_of should.items + 2 < t)
parts_fall t query must must_not should is size =
    let whole : depth (query_value query) ≡ suc (max (depth_of must.items) (max (depth_of must_not.items) (depth_of should.items))) =
    ap depth (ap query_value is ∙ value_at_bool must must_not should) in
    (omega (arith, whole, size), omega (arith, whole, size), omega (arith, whole, size))

-- none of some queries is deeper than all
pub depth_at : (qs : List Query) (k : ℕ) (q : Query) → k < length qs → q ≡ get_or qs k q → depth (query_value q) ≤ depth_of qs
depth_at [] k q inside is = absurd (omega (arith, inside))
depth_at (w ∷ ws) zero q inside is = let same : depth (query_value q) ≡ depth (query_value w) = ap (λ x. depth (query_value x)) is in omega (arith, same)
depth_at (w ∷ ws) (suc k) q inside is = omega (arith, depth_at ws k q (omega (arith, inside)) is)

-- what holds of all holds of one
pub one_of_all : (p : Query → Bool) (qs : List Query) (k : ℕ) (q : Query) → list_all p qs ≡ true → k < length qs → q ≡ get_or qs k q → p q ≡ true
one_of_all p [] k q all inside is = absurd (omega (arith, inside))
one_of_all p (w ∷ ws) zero q all inside is = ap p is ∙ (and_parts (p w) (list_all p ws) all).0
one_of_all p (w ∷ ws) (suc k) q all inside is = one_of_all p ws k q (and_parts (p w) (list_all p ws) all).1 (omega (arith, inside)) is
