-- The documents of each query so far, and what its cursor opens.
use Rattle.std.proofs.Common.{◌+◌, ◌*◌, take}
use Rattle.fts_model.specs.QueryValues.{query_value}
use Rattle.fts_cursor.specs.Musts.{AreMusts}
use Rattle.fts_cursor.specs.Shoulds.{AreShoulds}
use Rattle.fts_cursor.proofs.DepthLemmas.{depth, depth_of}
use Rattle.fts_cursor.proofs.query_tree.+build.Given as goal

abbrev pub decreases-tree_of : goal.decreases-tree_of
decreases-tree_of l = 3 * depth (query_value l.query.now) + 0

abbrev pub decreases-any_of : goal.decreases-any_of
decreases-any_of l = 3 * depth_of l.queries.now + 2

abbrev pub decreases-all_of : goal.decreases-all_of
decreases-all_of l = 3 * depth_of l.queries.now + 2

abbrev pub decreases-musts_of : goal.decreases-musts_of
decreases-musts_of l = 3 * depth_of l.queries.now + 1

abbrev pub decreases-shoulds_of : goal.decreases-shoulds_of
decreases-shoulds_of l = 3 * depth_of l.queries.now + 1

abbrev pub invariant-shoulds_of-loop-query : goal.invariant-shoulds_of-loop-query
invariant-shoulds_of-loop-query l = AreShoulds l.segment (take l.query-index l.queries) l.bits.items l.parts.items

abbrev pub invariant-musts_of-loop-query : goal.invariant-musts_of-loop-query
invariant-musts_of-loop-query l = AreMusts l.segment (take l.query-index l.queries) l.is_told l.set l.parts.items
