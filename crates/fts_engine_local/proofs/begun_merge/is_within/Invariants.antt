-- What stays true in the loop of `begun_merge::is_within`.
use Rattle.std.proofs.Common.{◌≡◌, ◌≤◌, take, sum_by}
use Rattle.fts_snapshots.specs.Entries.{live_count}
use Rattle.fts_engine_local.proofs.begun_merge.is_within.Given as goal

abbrev pub invariant-loop-entry : goal.invariant-loop-entry
invariant-loop-entry l = (l.live ≡ sum_by live_count (take l.entry-index l.entries)) × (l.live ≤ 1048576)
