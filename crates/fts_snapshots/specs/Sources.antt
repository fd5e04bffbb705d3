-- The segments of a snapshot as the sources of a merge.
use Rattle.std.specs.Prelude.{◌≡◌, ◌≢◌, ◌↔◌, ◌<◌, Err, IfErr, IfOk, List, Result, map}
use Rattle.fts_base.specs.declared.refusal.Refusal.{Refusal}
use Rattle.fts_base.specs.declared.refusal.Refusal.TheVariants.{Memory, TooLarge}
use Rattle.fts_merge.specs.Merges.{MergedValue, SourceValue, live_count, merge_of}
use Rattle.fts_model.specs.Limits.{most_merged}
use Rattle.fts_snapshots.specs.Entries.{EntryValue}

-- a segment with its live bits
abbrev pub source_of : EntryValue → SourceValue
source_of entry = record { segment = entry.segment; live = entry.live }

-- what a merge of segments gives
pub record IsMergeOf (entries : List EntryValue) (made : Result MergedValue Refusal) : Type 0 where
  pub ok : IfOk made (λ m. m ≡ merge_of (map source_of entries))
  pub large : (made ≡ Err TooLarge) ↔ (most_merged < live_count (map source_of entries))
  pub other : IfErr made (λ e. e ≢ TooLarge → e ≡ Memory)
