-- What stays true in the loop of `parts_in_turn`.
use Rattle.std.proofs.Common.{◌≡◌, ◌++◌}
use Rattle.std.specs.List.{AllZip}
use Rattle.fts_model.specs.QueryValues.{query_value}
use Rattle.fts_snapshots.specs.EntryLists.{entries_ahead}
use Rattle.fts_collect.specs.Searches.{IsPartOf}
use Rattle.fts_snapshots.proofs.EntryListLemmas.{passed}
use Rattle.fts_collect.proofs.searches.parts_in_turn.Given as goal

abbrev pub invariant-loop-entry : goal.invariant-loop-entry
invariant-loop-entry g l =
    (goal.iterator-loop-entry g).can_next l.entry-iterator × (goal.iterator-loop-entry g).is_finite l.entry-iterator
    × (passed l.yielded ++ entries_ahead l.entry-iterator ≡ l.entries)
    × AllZip (IsPartOf (query_value l.fn.query) l.fn.request) (passed l.yielded) l.parts.items
