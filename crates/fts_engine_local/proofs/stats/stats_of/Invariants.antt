-- What stays true in the loop of `stats::stats_of`.
use Rattle.std.proofs.Common.{◌≡◌, ◌++◌, sum_by}
use Rattle.fts_snapshots.specs.Entries.{live_count}
use Rattle.fts_snapshots.specs.EntryLists.{entries_ahead}
use Rattle.fts_snapshots.proofs.EntryListLemmas.{passed}
use Rattle.fts_engine_local.specs.Stats.{capped, documents_in}
use Rattle.fts_engine_local.proofs.stats.stats_of.Given as goal

abbrev pub invariant-loop-entry : goal.invariant-loop-entry
invariant-loop-entry l =
    (goal.iterator-loop-entry).can_next l.entry-iterator × (goal.iterator-loop-entry).is_finite l.entry-iterator
    × (passed l.yielded ++ entries_ahead l.entry-iterator ≡ l.entries)
    × (l.documents ≡ capped (sum_by documents_in (passed l.yielded)))
    × (l.live ≡ capped (sum_by live_count (passed l.yielded)))
