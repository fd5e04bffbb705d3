use Rattle.std.proofs.Common.{◌≡◌, drop}
use Rattle.std.specs.List.{list_all}
use Rattle.fts_model.proofs.QueriesBoolean.{fits_in}
use Rattle.fts_model.proofs.query.+query_fits.Given as goal

-- all queries fit if those that are left do
abbrev pub invariant-all_fit-loop-query : goal.invariant-all_fit-loop-query
invariant-all_fit-loop-query l = list_all (fits_in l.schema) (drop l.query-index l.queries) ≡ list_all (fits_in l.schema) l.queries
