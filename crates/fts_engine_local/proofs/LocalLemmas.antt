-- What stays true of an engine of one thread from call to call.
use Rattle.std.proofs.Common.{◌≡◌, ◌+◌, ◌^◌, ◌≤◌, ℕ, nat_lt, zero, suc, cond, true, false, Option, None, Some, List, [], ◌∷◌, ◌++◌, length, take, filter, not, refl, sym, ap, subst, ◌∙◌, arith}
use Rattle.std.specs.List.{range_with_len}
use Rattle.std.specs.Option.{ForSome}
use Rattle.std.proofs.lemmas.List.{length-append, length-take}
use Rattle.std.proofs.lemmas.Bool.Decides.{nat_tests}
use Rattle.std.proofs.lemmas.List.Sums.{length-filter, count_by-le-length}
use Rattle.fts_model.specs.declared.operation.Op.{Op}
use Rattle.fts_model.specs.declared.operation.Stamped.{Stamped}
use Rattle.fts_model.specs.declared.cut.Cut.{Cut}
use Rattle.fts_model.specs.Operations.{op_fits}
use Rattle.fts_snapshots.specs.Changes.{Commits, Merges}
use Rattle.fts_snapshots.specs.Entries.{EntryValue, has_live}
use Rattle.fts_snapshots.specs.LateMerges.{after_end, end_fault, ended, gone_fault}
use Rattle.fts_snapshots.specs.MergedSegments.{MergedSegmentValue, merged_of}
use Rattle.fts_snapshots.specs.Merges.{is_among, without}
use Rattle.fts_snapshots.specs.Snapshots.{SnapshotValue, content_of, segments_and_numbers}
use Rattle.fts_snapshots.specs.Successors.{Fits, Follows}
use Rattle.fts_snapshots.proofs.FollowLemmas.{fits_further}
use Rattle.fts_snapshots.specs.Successors.{follows_further}
use Rattle.fts_model.specs.Operations.{stamps_of}
use Rattle.fts_model.proofs.StampLemmas.{numbered-push}
use Rattle.fts_base.specs.declared.refusal.Refusal.{Refusal}
use Rattle.fts_base.specs.declared.refusal.Refusal.TheVariants.{OtherSchema, StampsUsedUp}
use Rattle.fts_base.specs.Results.{first_of}
use Rattle.fts_model.specs.declared.schema.Field.{Field}
use Rattle.fts_snapshots.specs.Commits.{misfit, numbers_fault}
use Rattle.fts_snapshots.specs.declared.commit_point.CommitPoint.{CommitPoint}
use Rattle.fts_snapshots.specs.CountedSnapshots.{IsCounted}
use Rattle.fts_snapshots.specs.LaterCommits.{IsLaterCommit}
use Rattle.fts_engine_local.specs.LocalIndexes.{IsLocalEngine, index_at}
use Rattle.fts_snapshots.proofs.CountedLemmas.{counted_committed, counted_merged, counted_submitted}

-- numbers aren't used up
numbers_left : (n : ℕ) → n ≤ 2 ^ 62 → numbers_fault n ≡ None
numbers_left n room =
    let few : nat_lt (2 ^ 62) n ≡ false = grind (arith, nat_tests) in
    ap (λ b. cond b (Some StampsUsedUp) None) few

first_alone : {X : Type 0} (a b : Option X) → b ≡ None → first_of a b ≡ a
first_alone None b none = none
first_alone (Some x) b none = refl

-- a merge that can't end lacks a source
pub gone_of : (m : MergedSegmentValue) (s : SnapshotValue) (refusal : Refusal) → s.next_id + 1 ≤ 2 ^ 62 →
    end_fault s.next_id m s.entries ≡ Some refusal → gone_fault m s.entries ≡ Some refusal
gone_of m s refusal room is =
    sym (first_alone (gone_fault m s.entries) (numbers_fault (s.next_id + 1)) (numbers_left (s.next_id + 1) room)) ∙ is

-- what the started merge makes fits a later snapshot
fits_later : (begun : Option (List EntryValue)) (old new : SnapshotValue) → ForSome begun (λ job. Fits (merged_of job) old) → Follows old new →
    ForSome begun (λ job. Fits (merged_of job) new)
fits_later begun old new h f = λ job is. fits_further (merged_of job) old new (h job is) f

-- one more uncommitted operation
pub local_submitted : (commit : CommitPoint) (uncommitted : List (Stamped Op)) (cut : Cut) (calls : ℕ) (begun : Option (List EntryValue)) (stamp : ℕ) (op : Op) →
    IsLocalEngine commit uncommitted cut calls begun → stamp ≡ commit.stamp + length uncommitted + 1 →
    op_fits commit.snapshot.schema op ≡ true → IsLocalEngine commit (uncommitted ++ record { stamp = stamp; value = op } ∷ []) cut (calls + 1) begun
local_submitted commit uncommitted cut calls begun stamp op i at fits =
    let one : Stamped Op = record { stamp = stamp; value = op } in
    record {
      fits = i.fits;
      cuts = i.cuts;
      numbered = numbered-push (commit.stamp + 1) uncommitted one i.numbered (omega (arith, at));
      counted = counted_submitted commit.stamp commit.snapshot uncommitted one calls i.counted fits;
    }

-- the first operations have the same stamps
numbered-take : (first n : ℕ) (ops : List (Stamped Op)) → stamps_of ops ≡ range_with_len first (length ops) →
    stamps_of (take n ops) ≡ range_with_len first (length (take n ops))
numbered-take first zero ops run = refl
numbered-take first (suc n) [] run = refl
numbered-take first (suc n) (op ∷ ops) run =
    let head : op.stamp ≡ first = cc in
    let tail : stamps_of ops ≡ range_with_len (first + 1) (length ops) = cc in
    let later = numbered-take (first + 1) n ops tail in λ i. head i ∷ later i

-- the first of operations that fit
misfit-take : (schema : List Field) (n : ℕ) (ops : List (Stamped Op)) → misfit schema ops ≡ None → misfit schema (take n ops) ≡ None
misfit-take schema zero ops fit = refl
misfit-take schema (suc n) [] fit = refl
misfit-take schema (suc n) (op ∷ ops) fit =
    elim (op_fits schema op.value) as (λ b. cond b (misfit schema ops) (Some (OtherSchema op.stamp)) ≡ None → cond b (misfit schema (take n ops))
    (Some (OtherSchema op.stamp)) ≡ None)
    [ true ↦ λ k. misfit-take schema n ops k | false ↦ λ k. k ] fit

-- the uncommitted operations but the first are taken back
pub local_taken_back : (commit : CommitPoint) (uncommitted : List (Stamped Op)) (cut : Cut) (calls : ℕ) (begun : Option (List EntryValue)) (count : ℕ) →
    IsLocalEngine commit uncommitted cut calls begun → IsLocalEngine commit (take count uncommitted) cut calls begun
local_taken_back commit uncommitted cut calls begun count i =
    let fewer : length (take count uncommitted) ≤ length uncommitted = omega (arith, length-take count uncommitted) in
    record {
      fits = i.fits;
      cuts = i.cuts;
      numbered = numbered-take (commit.stamp + 1) count uncommitted i.numbered;
      counted = record {
        fit = misfit-take commit.snapshot.schema count uncommitted i.counted.fit;
        stamps = omega (arith, fewer, i.counted.stamps);
        segments = omega (arith, fewer, i.counted.segments);
      };
    }

-- the uncommitted operations are committed, and segments merged after it
pub local_committed : (old mid new : CommitPoint) (uncommitted : List (Stamped Op)) (cut : Cut) (calls : ℕ) (begun : Option (List EntryValue)) →
    IsLocalEngine old uncommitted cut calls begun → Commits uncommitted old.snapshot mid.snapshot →
    mid.stamp ≡ old.stamp + length uncommitted + 1 → Follows old.snapshot mid.snapshot → Merges 1 mid.snapshot new.snapshot → IsLaterCommit mid new →
    IsLocalEngine new [] cut (calls + 1) begun
local_committed old mid new uncommitted cut calls begun i c at f m kept = record {
  fits = fits_later begun old.snapshot new.snapshot i.fits (follows_further old.snapshot mid.snapshot new.snapshot f kept.follows);
  cuts = i.cuts;
  numbered = refl;
  counted = counted_committed old.stamp new.stamp old.snapshot mid.snapshot new.snapshot uncommitted calls i.counted c m (kept.stamp ∙ at);
}

-- the segments of the last commit are merged
pub local_merged : (old new : CommitPoint) (uncommitted : List (Stamped Op)) (cut : Cut) (calls : ℕ) (begun : Option (List EntryValue)) →
    IsLocalEngine old uncommitted cut calls begun → Merges 1 old.snapshot new.snapshot → IsLaterCommit old new →
    IsLocalEngine new uncommitted cut (calls + 1) begun
local_merged old new uncommitted cut calls begun i m kept = record {
  fits = fits_later begun old.snapshot new.snapshot i.fits kept.follows;
  cuts = i.cuts;
  numbered = subst (λ n. stamps_of uncommitted ≡ range_with_len (n + 1) (length uncommitted)) (sym kept.stamp) i.numbered;
  counted = subst (λ n. IsCounted n new.snapshot uncommitted (calls + 1)) (sym kept.stamp) (counted_merged old.stamp old.snapshot new.snapshot uncommitted calls
      i.counted m);
}

-- the end of a merge takes a number and a segment at most
end_counted : (m : MergedSegmentValue) (s : SnapshotValue) → segments_and_numbers (after_end m s) ≤ segments_and_numbers s + 2
end_counted m s =
    let one = ended s.next_id m s.entries ∷ [] in
    let others : EntryValue → _ = λ e. not (is_among m.ids e.id) in
    omega (
      arith,
      length-append (without s.entries m.ids) (filter has_live one),
      length-filter others s.entries,
      count_by-le-length others s.entries,
      length-filter has_live one,
      count_by-le-length has_live one,
    )

-- the started merge has ended
pub local_ended : (m : MergedSegmentValue) (old new : CommitPoint) (uncommitted : List (Stamped Op)) (cut : Cut) (calls : ℕ) (begun : Option (List EntryValue)) →
    IsLocalEngine old uncommitted cut calls begun → new.snapshot ≡ after_end m old.snapshot → new.stamp ≡ old.stamp →
    IsLocalEngine new uncommitted cut (calls + 1) None
local_ended m old new uncommitted cut calls begun i is kept = record {
  fits = λ job is. cc;
  cuts = i.cuts;
  numbered = subst (λ n. stamps_of uncommitted ≡ range_with_len (n + 1) (length uncommitted)) (sym kept) i.numbered;
  counted = record {
    fit = subst (λ s. misfit s.schema uncommitted ≡ None) (sym is) i.counted.fit;
    stamps = omega (arith, kept, i.counted.stamps);
    segments = omega (arith, ap segments_and_numbers is, end_counted m old.snapshot, i.counted.segments);
  };
}

-- the end of a merge leaves the index as it was
pub index_ended : (m : MergedSegmentValue) (old new : CommitPoint) (uncommitted : List (Stamped Op)) → new.snapshot ≡ after_end m old.snapshot →
    content_of new.snapshot ≡ content_of old.snapshot → new.stamp ≡ old.stamp →
    index_at new.stamp new.snapshot uncommitted ≡ index_at old.stamp old.snapshot uncommitted
index_ended m old new uncommitted is content stamp =
    let schema : new.snapshot.schema ≡ old.snapshot.schema = ap (λ (s : SnapshotValue). s.schema) is in
    λ i. record { schema = schema i; documents = content i; commit_stamp = stamp i; uncommitted = uncommitted }
