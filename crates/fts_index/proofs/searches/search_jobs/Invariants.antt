-- What stays true in the loop of `searches::search_jobs`.
use Rattle.std.proofs.Common.{◌≡◌, ◌++◌, map}
use Rattle.std.specs.Arc.{arc_value}
use Rattle.fts_model.specs.QueryValues.{query_value}
use Rattle.fts_snapshots.specs.EntryLists.{entries_ahead}
use Rattle.fts_snapshots.proofs.EntryListLemmas.{passed}
use Rattle.fts_index.specs.SearchJobs.{asks, asked_of}
use Rattle.fts_index.proofs.searches.search_jobs.Given as goal

abbrev pub invariant-loop-entry : goal.invariant-loop-entry
invariant-loop-entry l =
    (goal.iterator-loop-entry).can_next l.entry-iterator × (goal.iterator-loop-entry).is_finite l.entry-iterator
    × (passed l.yielded ++ entries_ahead l.entry-iterator ≡ l.entries)
    × (map asked_of l.jobs.items ≡ map (asks (query_value (arc_value l.query)) l.request) (passed l.yielded))
