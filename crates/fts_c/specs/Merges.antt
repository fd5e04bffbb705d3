-- What calls leave that merge an index beside its commits. No reply shows what they do.
use Rattle.std.specs.Prelude.{◌≡◌, ◌≢◌, ◌⊎◌, ◌↔◌, ◌^◌, ◌≤◌, ◌==◌, ℕ, ℤ, List, Bool, true, false, Result, Ok, Err}
use Rattle.std.specs.Prelude.{Option, Some, None, MatchOption, if◌then◌else◌}
use Rattle.std.specs.Option.{option_map}
use Rattle.fts_base.specs.declared.refusal.Refusal.{Refusal}
use Rattle.fts_base.specs.declared.refusal.Refusal.TheVariants.{Memory}
use Rattle.fts_snapshots.specs.Entries.{EntryValue}
use Rattle.fts_engine_local.specs.BegunMerges.{due_job}
use Rattle.fts_engine_local.specs.EndedMerges.{HasEnded, HasFailed}
use Rattle.fts_engine_local.specs.LocalIndexes.{LocalValue}
use Rattle.fts_engine_local.specs.declared.begun_merge.BegunMerge.{BegunMerge}
use Rattle.fts_c.specs.declared.codes.TheConstants.{OK, MEMORY, CLOSED, NOTHING, GONE, NO_LIMIT}
use Rattle.fts_c.specs.declared.state.State.{State}

-- A state is as it was, except for its engine.
pub record ChangesEngine (old new : State) : Type 0 where
  pub script : new.session.script ≡ old.session.script
  pub reply : new.reply ≡ old.reply
  pub merge : new.merge ≡ old.merge

-- the limit that a number means
abbrev pub limit_of : ℕ → Option ℕ
limit_of limit = if limit == NO_LIMIT then None else Some limit

-- The limit of what commits merge is the one that was given, and nothing else changed; without an index nothing did.
pub record LimitsMerges (limit : Option ℕ) (old new : State) (code : ℤ) : Type 0 where
  pub same : ChangesEngine old new
  pub limited : new.session.engine ≡ option_map (λ (e : LocalValue). record e { limit = limit }) old.session.engine
  pub code_is : (code ≡ OK) ⊎ (code ≡ NOTHING)
  pub nothing : (code ≡ NOTHING) ↔ (old.session.script.index ≡ None)

-- a merge of what is due was started, which the engine remembers in place of the one before
pub record StartsMerge (old new : LocalValue) (merge : BegunMerge) : Type 0 where
  pub due : merge.job ≡ due_job old.snapshot.entries
  pub some : merge.job ≢ None
  pub remembered : new ≡ record old { begun = merge.job }

-- a merge of what is due was started, of an engine that is there
abbrev pub HasBegun : Option LocalValue → Option LocalValue → Option BegunMerge → Type 0
HasBegun old new merge =
    MatchOption old ⊥ (λ before. MatchOption new ⊥ (λ after. MatchOption merge ⊥ (StartsMerge before after)))

-- nothing is due, as without an index
abbrev pub IsNothingDue : Option LocalValue → Type 0
IsNothingDue engine = MatchOption engine (Unit {0}) (λ e. due_job e.snapshot.entries ≡ None)

-- No merge was started: nothing is due, or memory was refused. The engine is as it was. Without an index no memory is
-- asked for.
pub record IsNotBegun (old new : State) (code : ℤ) : Type 0 where
  pub code_is : (code ≡ NOTHING) ⊎ (code ≡ MEMORY)
  pub nothing : code ≡ NOTHING → IsNothingDue old.session.engine
  pub no_index : old.session.script.index ≡ None → code ≡ NOTHING
  pub same : new.session.engine ≡ old.session.engine

-- A merge of what is due was started in a place, which holds it now. At another code the place is as it was.
pub record Begins {P : Type 0} (old new : State) (held : Option State) (slot after : P) (code : ℤ) : Type 0 where
  pub same : ChangesEngine old new
  pub ok : code ≡ OK → MatchOption held ⊥ (λ s. HasBegun old.session.engine new.session.engine s.merge)
  pub not_ok : code ≢ OK → IsNotBegun old new code × (after ≡ slot)

-- A merge of an open place was started in another. If the first is closed, it stays closed.
abbrev pub BeginsMerge : {P : Type 0} → Option State → Option State → Option State → P → P → ℤ → Type 0
BeginsMerge None new held slot after code = (new ≡ None) × (after ≡ slot) × (code ≡ CLOSED)
BeginsMerge (Some old) new held slot after code = MatchOption new ⊥ (λ s. Begins old s held slot after code)

-- the segments that a merge has yet to join, if there is a merge
abbrev pub job_in : Option BegunMerge → Option (Option (List EntryValue))
job_in = option_map (λ m. m.job)

-- A merge was run: it holds no more segments to join. If memory was refused, it holds what it held, and may be run
-- again.
pub record RunsMerge (old new : State) (code : ℤ) : Type 0 where
  pub code_is : (code ≡ OK) ⊎ (code ≡ MEMORY) ⊎ (code ≡ NOTHING)
  pub ran : code ≡ OK → MatchOption new.merge ⊥ (λ m. m.job ≡ None)
  pub kept : code ≡ MEMORY → job_in new.merge ≡ job_in old.merge
  pub nothing : (code ≡ NOTHING) ↔ (old.merge ≡ None)
  pub session : new.session ≡ old.session
  pub reply : new.reply ≡ old.reply

-- the code of the end of a merge: of one that wasn't started or run, it is that of nothing
abbrev pub IsCodeOfEnd : Result Bool Refusal → ℤ → Type 0
IsCodeOfEnd (Ok true) code = code ≡ OK
IsCodeOfEnd (Ok false) code = code ≡ NOTHING
IsCodeOfEnd (Err refusal) code =
    ((refusal ≡ Memory) × (code ≡ MEMORY)) ⊎ ((refusal ≢ Memory) × (code ≡ GONE))

-- The merge that an engine started last was ended: nothing refused it, its segment is in place of what it joined, and
-- none is begun any more. Or a source is gone, and it is given up. Or it is as it was: there is none, or it wasn't run,
-- or memory was refused. If there is none, memory is refused only after 2^61 calls.
pub record EndsIn (old new : LocalValue) (code : ℤ) : Type 0 where
  pub code_is : (code ≡ OK) ⊎ (code ≡ NOTHING) ⊎ (code ≡ MEMORY) ⊎ (code ≡ GONE)
  pub ok : code ≡ OK → HasEnded old.begun old new
  pub gone : code ≡ GONE → ((refusal : Refusal) × HasFailed old.begun old new refusal)
  pub kept : (code ≡ NOTHING) ⊎ (code ≡ MEMORY) → (new.snapshot ≡ old.snapshot) × (new.begun ≡ old.begun)
  pub none : old.begun ≡ None → (code ≡ NOTHING) ⊎ ((code ≡ MEMORY) × (2 ^ 61 ≤ old.calls))
  pub limit : new.limit ≡ old.limit

-- The merge that an index started last was ended, or not, as the code says. Without an index there is none.
pub record EndsMerge (old new : State) (code : ℤ) : Type 0 where
  pub same : ChangesEngine old new
  pub no_index : old.session.script.index ≡ None → code ≡ NOTHING
  pub ended : MatchOption old.session.engine ((new.session.engine ≡ None) × (code ≡ NOTHING))
      (λ before. MatchOption new.session.engine ⊥ (λ after. EndsIn before after code))
