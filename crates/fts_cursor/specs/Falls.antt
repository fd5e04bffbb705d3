-- Each cursor is deeper than those within it.
use Rattle.std.specs.Prelude.{◌≤◌, max}
use Rattle.std.proofs.Common.{arith}
use Rattle.fts_cursor.specs.TreeValues.{most-heights}
use Rattle.fts_cursor.specs.Trees.{tree_value, value_of}
use Rattle.fts_cursor.specs.declared.tree.Node.{Node}
use Rattle.fts_cursor.specs.declared.tree.Node.TheVariants.{Scan, Listed, Postings, Terms, Phrase, And, Or}
use Rattle.fts_cursor.specs.declared.tree.Node.TheVariants.{Filtered, Without}
use Rattle.fts_cursor.specs.declared.tree.Source.{Source}
use Rattle.fts_cursor.specs.declared.tree.Source.TheVariants as sources
use Rattle.fts_cursor.specs.declared.tree.Tree.TheDeep.{deep-Node, deep-Source}

node_falls : (node : Node) → max (deep-Node node) 0 ≤ (tree_value node).height
node_falls (Scan documents opened) = omega arith
node_falls (Listed documents opened) = omega arith
node_falls (Postings p) = omega arith
node_falls (Terms c opened) = omega arith
node_falls (Phrase s) = omega arith
node_falls (And parts) = omega (arith, most-heights parts.others.items)
node_falls (Or buffered) = omega (arith, most-heights buffered.parts.items)
node_falls (Without parts) = omega arith
node_falls (Filtered filtered) = omega arith

pub source_falls : (source : Source) → max (deep-Source source) 0 ≤ (value_of source).height
source_falls sources.Nothing = omega arith
source_falls (sources.Cursor node) = omega (arith, node_falls node.value)
