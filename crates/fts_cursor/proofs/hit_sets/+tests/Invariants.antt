-- The tests of the queries so far.
use Rattle.std.proofs.Common.{◌+◌, ◌*◌, take}
use Rattle.fts_model.specs.QueryValues.{query_value}
use Rattle.fts_postings.specs.Sets.{in_some}
use Rattle.fts_cursor.specs.Tests.{HasMore, hits_of_each}
use Rattle.fts_cursor.proofs.DepthLemmas.{depth, depth_of}
use Rattle.fts_cursor.proofs.hit_sets.+tests.Given as goal

abbrev pub decreases-push_query : goal.decreases-push_query
decreases-push_query l = 3 * depth (query_value l.query.now) + 0

abbrev pub decreases-push_queries : goal.decreases-push_queries
decreases-push_queries l = 3 * depth_of l.queries.now + 2

abbrev pub invariant-push_queries-loop-query : goal.invariant-push_queries-loop-query
invariant-push_queries-loop-query l = HasMore (in_some (hits_of_each l.segment (take l.query-index l.queries))) l.fn.leaves.items l.leaves.items
