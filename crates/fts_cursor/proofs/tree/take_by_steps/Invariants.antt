-- The documents so far are at the front, and the node is at the next.
use Rattle.fts_cursor.specs.Standing.{Walked}
use Rattle.fts_cursor.specs.Trees.{StandsAt, tree_value}
use Rattle.fts_postings.proofs.TakesLemmas.{Taken}
use Rattle.fts_cursor.proofs.tree.take_by_steps.Given as goal

abbrev pub invariant-loop-taken : goal.invariant-loop-taken
invariant-loop-taken l = record {
  front : Taken (tree_value l.initial.node).remaining (tree_value l.node).remaining l.out l.taken;
  stands : StandsAt l.next l.node;
  walked : Walked (tree_value l.initial.node).standing (tree_value l.node).standing;
}
