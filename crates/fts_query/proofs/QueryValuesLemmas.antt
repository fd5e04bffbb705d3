-- The queries of the code as values.
use Rattle.std.proofs.Common.{◌≡◌, ℕ, List, rules}
use Rattle.std.specs.Global.{Vec}
use Rattle.fts_model.specs.declared.operation.Term.{Term}
use Rattle.fts_model.specs.declared.query.Query.{Query, the_lemmas}
use Rattle.fts_model.specs.QueryValues.{every, nothing, term, phrase, query_value}
use Rattle.fts_model.specs.declared.query.Query as queries

-- the value of the query for all documents
pub value-all : query_value queries.All ≡ every
value-all = search (rules, the_lemmas)

-- the value of the query for no document
pub value-none : query_value queries.None ≡ nothing
value-none = search (rules, the_lemmas)

-- the value of the query for a term
pub value-term : (t : Term) → query_value (queries.Term t) ≡ term t
value-term t = search (rules, the_lemmas)

-- the value of the query for a phrase
pub value-phrase : (field : ℕ) (pattern : Vec (ℕ × List ℕ)) → query_value (queries.Phrase field pattern) ≡ phrase field pattern.items
value-phrase field pattern = search (rules, the_lemmas)
