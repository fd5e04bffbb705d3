-- How large an index over segments is.
use Rattle.std.specs.Prelude.{ℕ, List, length, nat_lt, sum_by, if◌then◌else◌}
use Rattle.fts_snapshots.specs.Entries.{EntryValue, live_count}
use Rattle.fts_engine_local.specs.declared.stats.Stats.{Stats}

-- a number, or the greatest of 64 bits if it is above
abbrev pub capped : ℕ → ℕ
capped n = if nat_lt 18446744073709551615 n then 18446744073709551615 else n

-- how many documents a segment has, live or not
abbrev pub documents_in : EntryValue → ℕ
documents_in entry = length entry.segment.documents

-- how many segments there are, how many documents they have, and how many of these are live
abbrev pub stats_of : List EntryValue → Stats
stats_of entries = record {
  segments = length entries;
  documents = capped (sum_by documents_in entries);
  live = capped (sum_by live_count entries);
}
