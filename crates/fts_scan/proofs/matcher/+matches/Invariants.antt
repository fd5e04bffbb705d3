use Rattle.std.proofs.Common.{◌≡◌, drop}
use Rattle.fts_scan.specs.Scans.{one_is}
use Rattle.fts_model.proofs.QueriesBoolean.{matches_in}
use Rattle.fts_scan.proofs.matcher.+matches.Given as goal

-- the result is that of the queries that are left
abbrev pub invariant-one_is-loop-query : goal.invariant-one_is-loop-query
invariant-one_is-loop-query l = one_is l.wanted (matches_in l.schema l.document) (drop l.query-index l.queries)
    ≡ one_is l.wanted (matches_in l.schema l.document) l.queries
