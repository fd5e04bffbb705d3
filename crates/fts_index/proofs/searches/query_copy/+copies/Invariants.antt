-- What stays true in the loop of `searches::query_copy::copy_of_all`.
use Rattle.std.proofs.Common.{◌≡◌, map, take}
use Rattle.fts_model.specs.QueryValues.{query_value}
use Rattle.fts_index.proofs.searches.query_copy.+copies.Given as goal

abbrev pub invariant-copy_of_all-loop-query : goal.invariant-copy_of_all-loop-query
invariant-copy_of_all-loop-query l = map query_value l.copies.items ≡ map query_value (take l.query-index l.queries)
