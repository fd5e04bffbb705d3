use Rattle.std.proofs.Common.{◌≡◌, ◌+◌, drop}
use Rattle.fts_merge.specs.Merges.{live_count}
use Rattle.fts_merge.proofs.segment_merge.is_too_large.Given as goal

abbrev pub invariant-loop-source : goal.invariant-loop-source
invariant-loop-source l = 1048576 + live_count (drop l.source-index l.sources) ≡ l.room + live_count l.sources
