-- Those of the documents so far that the cursor lacked at first are at the front, and from the last of them on it has what it had.
use Rattle.std.proofs.Common.{◌≡◌, ℕ, ◌≤◌, take}
use Rattle.std.specs.List.{All}
use Rattle.fts_postings.specs.Sets.{has, lacks}
use Rattle.std.proofs.lemmas.List.Filters.{FiltersInPlace}
use Rattle.fts_cursor.specs.TreeValues.{TreeContinues}
use Rattle.fts_cursor.proofs.tree.exclusion.keep_lacking.Given as goal

abbrev pub invariant-loop-index : goal.invariant-loop-index
invariant-loop-index l = record {
  keeps : FiltersInPlace (lacks l.initial.dropped.remaining) l.initial.docs l.docs l.kept l.index;
  later : (d : ℕ) → All (λ doc. doc ≤ d) (take l.index l.initial.docs) → has l.dropped.remaining d ≡ has l.initial.dropped.remaining d;
  continues : TreeContinues l.initial.dropped l.dropped;
}
