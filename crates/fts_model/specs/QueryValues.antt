-- Queries as values, independent of memory.
use Rattle.std.specs.Prelude.{ℕ, List, [], ◌∷◌}
use Rattle.std.specs.declared.ops.Bound.{Bound}
use Rattle.fts_model.specs.declared.value.FieldValue.{FieldValue}
use Rattle.fts_model.specs.declared.operation.Term.{Term}
use Rattle.fts_model.specs.declared.query.Query.{Query, fold-Query}
use Rattle.fts_model.specs.declared.query.Query.TheOpen.{Query-F}

-- a query: every document, none, those with a term, a phrase in a field, or a value of a field within bounds, or those
-- that a combination of musts, must-nots and shoulds selects
mutual
  pub data QueryValue : Type 0 where
    every : QueryValue
    nothing : QueryValue
    term : Term → QueryValue
    phrase : ℕ → List (ℕ × List ℕ) → QueryValue
    range : ℕ → Bound FieldValue → Bound FieldValue → QueryValue
    boolean : QueryValues → QueryValues → QueryValues → QueryValue

  pub data QueryValues : Type 0 where
    no_queries : QueryValues
    queries : QueryValue → QueryValues → QueryValues

abbrev pub query_list : List QueryValue → QueryValues
query_list [] = no_queries
query_list (q ∷ qs) = queries q (query_list qs)

-- the value of a query whose own queries are already values
abbrev pub value_by_parts : Query-F QueryValue → QueryValue
value_by_parts Query-F.All = every
value_by_parts Query-F.None = nothing
value_by_parts (Query-F.Term t) = term t
value_by_parts (Query-F.Phrase field pattern) = phrase field pattern.items
value_by_parts (Query-F.Range field lower upper) = range field lower upper
value_by_parts (Query-F.Bool must must_not should) =
    boolean (query_list must.items) (query_list must_not.items) (query_list should.items)

-- the value of a query of the code
abbrev pub query_value : Query → QueryValue
query_value = fold-Query QueryValue value_by_parts
