-- What a tree of cursors stands for.
use Rattle.std.specs.Prelude.{◌≡◌, ℕ, ◌==◌, ◌≤◌, Bool, true, false, Option, Some, None}
use Rattle.std.specs.Prelude.{List, [], ◌∷◌, length, slice_get}
use Rattle.std.specs.List.{filter}
use Rattle.std.specs.List.Sorted.{IsStrictlyIncreasing}
use Rattle.fts_postings.specs.Posting.{blocks_reached, members_of, remaining_of}
use Rattle.fts_postings.specs.Conjoined.{common_of}
use Rattle.fts_postings.specs.Sets.{FirstPasses, common, has, in_all, in_some, lacks, union, without}
use Rattle.fts_cursor.specs.Standing.{at_most, with_opened}
use Rattle.fts_cursor.specs.Terms.{AreTied, IsAlone, of_terms}
use Rattle.fts_cursor.specs.TreeValues.{LeavesList, TreeValue, above, beside, leaf, remains, together}
use Rattle.fts_cursor.specs.declared.tree.buffered_union.BufferedUnion.{BufferedUnion}
use Rattle.fts_cursor.specs.declared.tree.exclusion.Exclusion.{Exclusion}
use Rattle.fts_cursor.specs.declared.tree.filtered_tree.FilteredTree.{FilteredTree}
use Rattle.fts_cursor.specs.declared.tree.intersection.Intersection.{Intersection}
use Rattle.fts_cursor.specs.declared.tree.Node.{Node}
use Rattle.fts_cursor.specs.declared.tree.Node.TheVariants.{Scan, Listed, Postings, Terms, Phrase}
use Rattle.fts_cursor.specs.declared.tree.Node.TheVariants.{And, Filtered, Or, Without}
use Rattle.fts_cursor.specs.declared.tree.Source.{Source}
use Rattle.fts_cursor.specs.declared.tree.Source.TheVariants.{Nothing, Cursor}
use Rattle.fts_postings.specs.declared.window.Window.{Window}
use Rattle.fts_sets.specs.Rows.{found}

-- each of the lists begins after the window
abbrev pub AreBeyond : Window → List (List ℕ) → Type 0
AreBeyond window lists = (d : ℕ) → d ≤ window.last → in_some lists d ≡ false

-- what the window has, and the parts
abbrev pub gathered : BufferedUnion → List ℕ
gathered buffered = union (found buffered.window ∷ remains buffered.parts.items)

-- what parts have in common, and what one has and the other doesn't
abbrev pub meet : Intersection → List ℕ
meet parts = common parts.lead.value.remaining (remains parts.others.items)

abbrev pub differ : Exclusion → List ℕ
differ parts = without parts.kept.value.remaining parts.dropped.value.remaining

-- the documents of a tree that are of a set
abbrev pub kept : FilteredTree → List ℕ
kept filtered = filter (has filtered.set) filtered.tree.value.remaining

abbrev pub tree_value : Node → TreeValue
tree_value (Scan documents opened) = leaf (record {
  remaining = documents;
  openings = opened;
  bound = at_most opened;
  whole = false;
  list = None;
})
tree_value (Listed documents opened) = leaf (record {
  remaining = documents;
  openings = opened;
  bound = at_most opened;
  whole = false;
  list = None;
})
tree_value (Postings p) = leaf (record {
  remaining = remaining_of p;
  openings = p.count;
  bound = at_most (length p.blocks);
  whole = p.opened == blocks_reached p;
  list = Some (members_of p);
})
tree_value (Terms c opened) = leaf (with_opened opened (of_terms c (common_of c)))
tree_value (Phrase s) = leaf (record s { whole = false; list = None })
tree_value (And parts) = beside parts.lead.value (together parts.others.items) (meet parts)
tree_value (Or buffered) = beside (together buffered.parts.items) (together []) (gathered buffered)
tree_value (Without parts) = beside parts.kept.value parts.dropped.value (differ parts)
tree_value (Filtered filtered) = above filtered.tree.value (kept filtered)

-- the first that passes, if there is one, is the first of what leads
abbrev pub PassesAt : Option ℕ → (ℕ → Bool) → List ℕ → Type 0
PassesAt None test lead = Unit {0}
PassesAt (Some doc) test lead = FirstPasses test lead

-- the window has the first document, if there is one, and the parts come after it
pub record IsBuffered (doc : Option ℕ) (window : Window) (lists : List (List ℕ)) : Type 0 where
  pub first : doc ≡ slice_get (found window) 0
  pub beyond : AreBeyond window lists

-- the parts are at the node's first document, if there is one
abbrev pub PartsStand : Option ℕ → Node → Type 0
PartsStand doc (And parts) = PassesAt doc (in_all (remains parts.others.items)) parts.lead.value.remaining
PartsStand doc (Without parts) = PassesAt doc (lacks parts.dropped.value.remaining) parts.kept.value.remaining
PartsStand doc (Or buffered) = IsBuffered doc buffered.window (remains buffered.parts.items)
PartsStand doc (Filtered filtered) = FirstPasses (has filtered.set) filtered.tree.value.remaining
PartsStand doc node = Unit {0}

-- each opening of a source was counted by its cursor, a list alone is in its blocks and rises, and what a filtered tree
-- leaves of one is of that list
abbrev pub IsTiedNode : Node → Type 0
IsTiedNode (Postings p) = IsAlone p
IsTiedNode (Terms c opened) = AreTied c
IsTiedNode (Filtered filtered) = LeavesList filtered.tree.value
IsTiedNode node = Unit {0}

-- the document is the first that remains, and the parts are there
pub record StandsAt (doc : Option ℕ) (node : Node) : Type 0 where
  pub first : doc ≡ slice_get (tree_value node).remaining 0
  pub rises : IsStrictlyIncreasing (tree_value node).remaining
  pub parts : PartsStand doc node
  pub tied : IsTiedNode node

-- the node is now at the document, and this remains
pub record IsNow (doc : Option ℕ) (node : Node) (remaining : List ℕ) : Type 0 where
  pub is : (tree_value node).remaining ≡ remaining
  pub stands : StandsAt doc node

-- what remained is what passes of the one that leads, and rises
pub record Met (doc : Option ℕ) (before : List ℕ) (test : ℕ → Bool) (lead : List ℕ) : Type 0 where
  pub is : filter test lead ≡ before
  pub first : doc ≡ slice_get before 0
  pub passes : PassesAt doc test lead
  pub rises : IsStrictlyIncreasing before

-- a tree is at this document, which passes, or at its end
pub record IsSettledAt (doc : Option ℕ) (test : ℕ → Bool) (tree : TreeValue) : Type 0 where
  pub first : doc ≡ slice_get tree.remaining 0
  pub passes : FirstPasses test tree.remaining
  pub rises : IsStrictlyIncreasing tree.remaining
  pub left : LeavesList tree

-- the documents of a cursor, or none
abbrev pub value_of : Source → TreeValue
value_of Nothing = leaf (record { remaining = []; openings = 0; bound = at_most 0; whole = true; list = Some [] })
value_of (Cursor node) = tree_value node.value

-- the cursor, if there is one, is at the document
abbrev pub Stands : Option ℕ → Source → Type 0
Stands doc Nothing = Unit {0}
Stands doc (Cursor node) = StandsAt doc node.value

-- the document is the first that remains, and the cursor is there
pub record IsTree (doc : Option ℕ) (source : Source) : Type 0 where
  pub first : doc ≡ slice_get (value_of source).remaining 0
  pub rises : IsStrictlyIncreasing (value_of source).remaining
  pub stands : Stands doc source
