-- Each cursor is deeper than its parts, so a call on a part goes down.
use Rattle.std.proofs.Common.{◌≡◌, ◌+◌, ◌*◌, max, length}
use Rattle.std.specs.List.{filter}
use Rattle.fts_postings.specs.Sets.{FirstPasses, has}
use Rattle.fts_cursor.specs.Standing.{Walked}
use Rattle.fts_cursor.specs.TreeValues.{TreeContinues, heights}
use Rattle.fts_cursor.specs.Trees.{differ, meet, tree_value}
use Rattle.fts_cursor.specs.declared.tree.Node.TheVariants.{And, Without}
use Rattle.fts_cursor.proofs.PartsLemmas.{NarrowedUpTo, LeftUpTo}
use Rattle.fts_cursor.proofs.GatherLemmas.{IsMarking, MarkedUpTo}
use Rattle.fts_cursor.proofs.tree.+tree.Given as goal

abbrev pub decreases-Tree::advance : goal.decreases-Tree::advance
decreases-Tree::advance l = 8 * l.self.now.height + 2

abbrev pub decreases-Tree::seek : goal.decreases-Tree::seek
decreases-Tree::seek l = 8 * l.self.now.height + 2

abbrev pub decreases-step : goal.decreases-step
decreases-step l = 8 * (tree_value l.node.now).height + 1

abbrev pub decreases-skip : goal.decreases-skip
decreases-skip l = 8 * (tree_value l.node.now).height + 1

abbrev pub decreases-intersection::align : goal.decreases-intersection::align
decreases-intersection::align l = 8 * max l.parts.now.lead.value.height (heights l.parts.now.others.items) + 5

abbrev pub decreases-exclusion::settle : goal.decreases-exclusion::settle
decreases-exclusion::settle l = 8 * max l.parts.now.kept.value.height l.parts.now.dropped.value.height + 5

abbrev pub decreases-filtered_tree::settle : goal.decreases-filtered_tree::settle
decreases-filtered_tree::settle l = 8 * l.tree.now.height + 5

abbrev pub decreases-intersection::bring : goal.decreases-intersection::bring
decreases-intersection::bring l = 8 * heights l.others.now + 3

abbrev pub decreases-buffered_union::seek_each : goal.decreases-buffered_union::seek_each
decreases-buffered_union::seek_each l = 8 * heights l.parts.now + 3

abbrev pub invariant-intersection::align-loop-doc : goal.invariant-intersection::align-loop-doc
invariant-intersection::align-loop-doc l = record {
  same : meet l.parts ≡ meet l.initial.parts;
  continues : TreeContinues (tree_value (And l.initial.parts)) (tree_value (And l.parts));
}

abbrev pub decreases-intersection::align-loop-doc : goal.decreases-intersection::align-loop-doc
decreases-intersection::align-loop-doc l = length l.parts.lead.value.remaining

abbrev pub invariant-exclusion::settle-loop-doc : goal.invariant-exclusion::settle-loop-doc
invariant-exclusion::settle-loop-doc l = record {
  same : differ l.parts ≡ differ l.initial.parts;
  continues : TreeContinues (tree_value (Without l.initial.parts)) (tree_value (Without l.parts));
}

abbrev pub decreases-exclusion::settle-loop-doc : goal.decreases-exclusion::settle-loop-doc
decreases-exclusion::settle-loop-doc l = length l.parts.kept.value.remaining

abbrev pub invariant-filtered_tree::settle-loop-doc : goal.invariant-filtered_tree::settle-loop-doc
invariant-filtered_tree::settle-loop-doc l = record {
  same : filter (has l.set) l.tree.remaining ≡ filter (has l.set) l.initial.tree.remaining;
  walked : Walked l.initial.tree.standing l.tree.standing;
  height : l.tree.height ≡ l.initial.tree.height;
  still : FirstPasses (has l.set) l.initial.tree.remaining → l.tree ≡ l.initial.tree;
}

abbrev pub decreases-filtered_tree::settle-loop-doc : goal.decreases-filtered_tree::settle-loop-doc
decreases-filtered_tree::settle-loop-doc l = length l.tree.remaining

abbrev pub invariant-intersection::bring-loop-other : goal.invariant-intersection::bring-loop-other
invariant-intersection::bring-loop-other l = NarrowedUpTo l.doc l.initial.others l.others l.other-index

abbrev pub invariant-buffered_union::seek_each-loop-part : goal.invariant-buffered_union::seek_each-loop-part
invariant-buffered_union::seek_each-loop-part l = LeftUpTo l.target l.initial.parts l.parts l.least l.part-index

abbrev pub decreases-buffered_union::gather : goal.decreases-buffered_union::gather
decreases-buffered_union::gather l = 8 * heights l.buffered.now.parts.items + 8

abbrev pub decreases-buffered_union::refill : goal.decreases-buffered_union::refill
decreases-buffered_union::refill l = 8 * heights l.buffered.now.parts.items + 7

abbrev pub decreases-buffered_union::mark_each : goal.decreases-buffered_union::mark_each
decreases-buffered_union::mark_each l = 8 * heights l.parts.now + 6

abbrev pub decreases-buffered_union::mark_part : goal.decreases-buffered_union::mark_part
decreases-buffered_union::mark_part l = 8 * l.part.now.height + 5

abbrev pub decreases-buffered_union::mark_any : goal.decreases-buffered_union::mark_any
decreases-buffered_union::mark_any l = 8 * l.part.now.height + 4

abbrev pub invariant-buffered_union::mark_each-loop-part : goal.invariant-buffered_union::mark_each-loop-part
invariant-buffered_union::mark_each-loop-part l = MarkedUpTo l.initial.parts l.parts l.initial.window l.window l.part-index

abbrev pub invariant-buffered_union::mark_any-loop-doc : goal.invariant-buffered_union::mark_any-loop-doc
invariant-buffered_union::mark_any-loop-doc l = record {
  continues : TreeContinues l.initial.part l.part;
  marking : IsMarking l.initial.part.remaining l.part.remaining l.initial.window l.window;
}

abbrev pub decreases-buffered_union::mark_any-loop-doc : goal.decreases-buffered_union::mark_any-loop-doc
decreases-buffered_union::mark_any-loop-doc l = length l.part.remaining
