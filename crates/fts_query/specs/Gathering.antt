-- A Boolean node that collects its clauses one by one.
--
-- Only proofs and contracts within the crate need this file.
use Rattle.std.specs.Prelude.{List, [], ◌∷◌, ◌++◌, Option, Some, None, Result, Ok, Err, map}
use Rattle.fts_query.specs.declared.error.QueryError.{QueryError}
use Rattle.fts_query.specs.declared.clauses.Occur.TheVariants.{Must, MustNot, Should}
use Rattle.fts_query.specs.declared.clauses.Clauses.{Clauses}
use Rattle.fts_model.specs.QueryValues.{QueryValue, query_value}
use Rattle.fts_query.specs.Meanings.{Meaning, Clause, boolean_of}

-- the musts, must-nots and shoulds that were collected, or the first error
abbrev pub Gathered : Type 0
Gathered = Result (List QueryValue × List QueryValue × List QueryValue) QueryError

abbrev pub gathered : Option QueryError → List QueryValue → List QueryValue → List QueryValue → Gathered
gathered None ms ns ss = Ok (ms, ns, ss)
gathered (Some error) ms ns ss = Err error

abbrev pub gathered_of : Clauses → Gathered
gathered_of c =
    gathered c.error (map query_value c.must.items) (map query_value c.must_not.items)
    (map query_value c.should.items)

abbrev pub gather : Gathered → Clause → Gathered
gather (Err error) c = Err error
gather (Ok g) (occur, Err error) = Err error
gather (Ok g) (Must, Ok q) = Ok (g.0 ++ q ∷ [], g.1, g.2)
gather (Ok g) (MustNot, Ok q) = Ok (g.0, g.1 ++ q ∷ [], g.2)
gather (Ok g) (Should, Ok q) = Ok (g.0, g.1, g.2 ++ q ∷ [])

abbrev pub gather_all : Gathered → List Clause → Gathered
gather_all g [] = g
gather_all g (c ∷ cs) = gather_all (gather g c) cs

-- the node of the collected clauses
abbrev pub gathered_node : Gathered → Meaning
gathered_node (Err error) = Err error
gathered_node (Ok g) = boolean_of g.0 g.1 g.2
