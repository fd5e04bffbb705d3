-- An exclusion is deeper than its parts, and a filtered tree deeper than the one in it, so a call on a part goes down.
use Rattle.std.proofs.Common.{◌+◌, ◌*◌, max}
use Rattle.fts_cursor.specs.Trees.{tree_value}
use Rattle.fts_cursor.proofs.tree.+take.Given as goal

abbrev pub decreases-Tree::take : goal.decreases-Tree::take
decreases-Tree::take l = 3 * l.self.now.height + 2

abbrev pub decreases-take_from : goal.decreases-take_from
decreases-take_from l = 3 * (tree_value l.node.now).height + 1

abbrev pub decreases-exclusion::take_without : goal.decreases-exclusion::take_without
decreases-exclusion::take_without l = 3 * max l.parts.now.kept.value.height l.parts.now.dropped.value.height + 3

abbrev pub decreases-filtered_tree::take_filtered : goal.decreases-filtered_tree::take_filtered
decreases-filtered_tree::take_filtered l = 3 * l.filtered.now.tree.value.height + 3
