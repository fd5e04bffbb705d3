-- What the beginning of a merge and its end leave of an engine of one thread.
use Rattle.std.specs.Prelude.{◌≡◌, ◌≢◌, ◌+◌, ◌^◌, ◌<◌, ◌≤◌, ◌⊎◌, true, false, Bool, Option, Some, None, List}
use Rattle.std.specs.Prelude.{Result, Ok, Err}
use Rattle.fts_base.specs.declared.refusal.Refusal.{Refusal}
use Rattle.fts_base.specs.declared.refusal.Refusal.TheVariants.{Memory}
use Rattle.fts_snapshots.specs.Entries.{EntryValue}
use Rattle.fts_snapshots.specs.LateMerges.{after_end, end_fault, gone_fault}
use Rattle.fts_snapshots.specs.MergedSegments.{merged_of}
use Rattle.fts_engine_local.specs.BegunMerges.{due_job}
use Rattle.fts_engine_local.specs.LocalIndexes.{LocalValue}
use Rattle.fts_engine_local.specs.declared.begun_merge.BegunMerge.{BegunMerge}

-- what the beginning of a merge gives: a job of what is due, which the engine remembers, or nothing, if nothing is due
-- or memory was refused
abbrev pub Begins : LocalValue → LocalValue → Result (Option BegunMerge) Refusal → Type 0
Begins old new (Ok None) = (due_job old.snapshot.entries ≡ None) × (new ≡ old)
Begins old new (Ok (Some merge)) =
    (merge.job ≢ None) × (merge.job ≡ due_job old.snapshot.entries) × (new ≡ record old { begun = merge.job })
Begins old new (Err refusal) = (refusal ≡ Memory) × (new ≡ old)

-- nothing refuses the merged segment, and it is in place of its sources in the last commit
abbrev pub HasEnded : Option (List EntryValue) → LocalValue → LocalValue → Type 0
HasEnded None old new = ⊥
HasEnded (Some job) old new =
    (end_fault old.snapshot.next_id (merged_of job) old.snapshot.entries ≡ None)
    × (new.snapshot ≡ after_end (merged_of job) old.snapshot) × (new.begun ≡ None)

-- the merged segment is refused, since a source is gone, and the merge is given up
abbrev pub HasFailed : Option (List EntryValue) → LocalValue → LocalValue → Refusal → Type 0
HasFailed None old new refusal = ⊥
HasFailed (Some job) old new refusal =
    (gone_fault (merged_of job) old.snapshot.entries ≡ Some refusal)
    × (new.snapshot ≡ old.snapshot) × (new.begun ≡ None)

-- What the end of a merge gives: whether it was ended. It wasn't if none was started, or if the started one wasn't run
-- or is being run in another thread, which the engine's value doesn't show.
abbrev pub Ends : LocalValue → LocalValue → Result Bool Refusal → Type 0
Ends old new (Ok true) = HasEnded old.begun old new
Ends old new (Ok false) = (new.snapshot ≡ old.snapshot) × (new.begun ≡ old.begun)
Ends old new (Err refusal) =
    ((refusal ≡ Memory) × (new.snapshot ≡ old.snapshot) × (new.begun ≡ old.begun))
    ⊎ HasFailed old.begun old new refusal

-- A merge was ended, if one was started and run; the index is the same. Calls are counted up to 2^61, and then none is
-- ended. If no merge was started, none is ended, and no memory is asked for.
pub record EndsMerge (old new : LocalValue) (result : Result Bool Refusal) : Type 0 where
  pub index : new.index ≡ old.index
  pub calls : new.calls ≤ old.calls + 1
  pub counted : old.calls < 2 ^ 61 → new.calls ≡ old.calls + 1
  pub full : 2 ^ 61 ≤ old.calls → new.calls ≡ old.calls
  pub used_up : 2 ^ 61 ≤ old.calls → result ≡ Err Memory
  pub none : old.calls < 2 ^ 61 → old.begun ≡ None → result ≡ Ok false
  pub limit : new.limit ≡ old.limit
  pub merge : new.merge ≡ old.merge
  pub is_merged : new.is_merged ≡ old.is_merged
  pub ends : Ends old new result
