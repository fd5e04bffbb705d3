-- All are terms where those that are left are.
use Rattle.std.proofs.Common.{◌≡◌, drop}
use Rattle.std.specs.List.{list_all}
use Rattle.fts_model.specs.QueryValues.{query_value}
use Rattle.fts_cursor.specs.Builds.{is_term}
use Rattle.fts_cursor.proofs.terms.are_terms.Given as goal

abbrev pub invariant-loop-query : goal.invariant-loop-query
invariant-loop-query l = list_all (λ q. is_term (query_value q)) (drop l.query-index l.queries) ≡ list_all (λ q. is_term (query_value q)) l.queries
