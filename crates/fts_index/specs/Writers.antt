-- What contracts see of a writer, and what its calls change.
use Rattle.std.specs.Prelude.{◌≡◌, ℕ, ◌+◌, ◌*◌, ◌^◌, ◌<◌, ◌≤◌, ◌==◌, ◌&&◌, ◌||◌, nat_le, Bool, false, Option}
use Rattle.std.specs.Prelude.{Some, None, List, length, MatchOption, ◌⊎◌, Result, Ok, Err, if◌then◌else◌}
use Rattle.fts_base.specs.declared.refusal.Refusal.{Refusal}
use Rattle.fts_base.specs.declared.refusal.Refusal.TheVariants.{Memory, RoundOpen, StampsUsedUp, StaleBatch}
use Rattle.fts_base.specs.Results.{first_of}
use Rattle.fts_model.specs.declared.cut.Cut.{Cut}
use Rattle.fts_rounds.specs.declared.stamps.RoundLimits.{RoundLimits}
use Rattle.fts_rounds.specs.Rounds.{Gathered}
use Rattle.fts_snapshots.specs.Commits.{misfit}
use Rattle.fts_snapshots.specs.Snapshots.{after_commit, commit_fault}
use Rattle.fts_snapshots.specs.Merges.{entries_at}
use Rattle.fts_snapshots.specs.MergedSegments.{MergedSegmentValue, merged_of}
use Rattle.fts_snapshots.specs.LateMerges.{end_fault, after_end}
use Rattle.fts_index.specs.Publications.{FrontValue, published}

-- a call succeeded and nothing was wrong, or it was refused for what was wrong or for memory
abbrev pub IsRefusedFor : {X : Type 0} → Option Refusal → Result X Refusal → Type 0
IsRefusedFor fault (Ok x) = fault ≡ None
IsRefusedFor fault (Err refusal) = (refusal ≡ Memory) ⊎ (fault ≡ Some refusal)

-- a writer: what it published last, how many rounds it has opened, and the round that is open, if one is
pub record WriterValue : Type 0 where
  pub front : FrontValue
  pub rounds : ℕ
  pub round : Option RoundLimits

-- the open round begins after the last commit, and has a number that was given
abbrev pub IsOpen : ℕ → ℕ → Option RoundLimits → Type 0
IsOpen stamp rounds round =
    MatchOption round (Unit {0}) (λ limits. (limits.first ≡ stamp + 1) × (limits.round < rounds))

-- what holds of every writer: it opened at most 2^62 rounds, and the open one begins after the last commit
pub record IsWriter (w : WriterValue) : Type 0 where
  pub rounds : w.rounds ≤ 2 ^ 62
  pub round : IsOpen w.front.stamp w.rounds w.round

-- a round of this writer, if it is opened next
abbrev pub next_round : ℕ → ℕ → WriterValue → RoundLimits
next_round lanes cap w = record { round = w.rounds; first = w.front.stamp + 1; lanes = lanes; cap = cap }

-- the writer when that round was opened
abbrev pub with_round : ℕ → ℕ → WriterValue → WriterValue
with_round lanes cap w = record { front = w.front; rounds = w.rounds + 1; round = Some (next_round lanes cap w) }

-- the writer without an open round
abbrev pub without_round : WriterValue → WriterValue
without_round w = record { front = w.front; rounds = w.rounds; round = None }

-- why no round can be opened; `used_up` says whether its stamps or its number can't be given
abbrev pub fault_beside : Option RoundLimits → Bool → Option Refusal
fault_beside (Some limits) used_up = Some RoundOpen
fault_beside None used_up = if used_up then Some StampsUsedUp else None

-- why no round can be opened: one is open, or its stamps or its number are used up
abbrev pub round_fault : ℕ → ℕ → WriterValue → Option Refusal
round_fault lanes cap w =
    fault_beside w.round (nat_le (2 ^ 62) (w.front.stamp + 1 + lanes * cap) || nat_le (2 ^ 62) w.rounds)

-- a batch is of the open round
abbrev pub is_of : Option RoundLimits → Gathered → Bool
is_of None batch = false
is_of (Some limits) batch = limits.round == batch.round && limits.first == batch.first

-- why a batch can't be committed: it is stale, of another schema, or numbers are used up
abbrev pub batch_fault : Cut → Gathered → WriterValue → Option Refusal
batch_fault cut batch w =
    first_of (if is_of w.round batch then None else Some StaleBatch)
    (first_of (misfit w.front.snapshot.schema batch.ops) (commit_fault cut batch.ops w.front.snapshot))

-- the stamp of the commit of a batch: the one after the last of its operations
abbrev pub stamp_behind : Gathered → ℕ
stamp_behind batch = batch.first + length batch.ops

-- the writer after the commit of a batch
abbrev pub with_commit : Cut → Gathered → WriterValue → WriterValue
with_commit cut batch w = record {
  front = published (stamp_behind batch) (after_commit cut batch.ops w.front.snapshot) w.front;
  rounds = w.rounds;
  round = None;
}

-- why a merge can't end: a source is gone, or numbers are used up
abbrev pub late_fault : MergedSegmentValue → WriterValue → Option Refusal
late_fault m w = end_fault w.front.snapshot.next_id m w.front.snapshot.entries

-- the writer after the end of a merge: the publication before is published again, with the merged segment in place of
-- its sources
abbrev pub with_end : MergedSegmentValue → WriterValue → WriterValue
with_end m w = record {
  front = published w.front.stamp (after_end m w.front.snapshot) w.front;
  rounds = w.rounds;
  round = w.round;
}

-- the writer after a merge that was started, run and ended with nothing in between
abbrev pub with_merge : List ℕ → WriterValue → WriterValue
with_merge ids w = with_end (merged_of (entries_at w.front.snapshot.entries ids)) w

-- a writer keeps its commit stamp, its readers and its rounds
pub record KeepsRounds (old new : WriterValue) : Type 0 where
  pub stamp : new.front.stamp ≡ old.front.stamp
  pub of : new.front.seen.of ≡ old.front.seen.of
  pub rounds : new.rounds ≡ old.rounds
  pub round : new.round ≡ old.round
