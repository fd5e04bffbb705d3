-- The first stamp of a batch, and what merges leave of a writer.
use Rattle.std.proofs.Common.{◌≡◌, ◌+◌, ◌==◌, inl, inr, Option, Some, None, Result, Ok, Err, OnOk, OnErr, List, ℕ, true, refl, sym, ap, subst, ◌∙◌}
use Rattle.std.proofs.lemmas.Bool.{and_parts, eqb-true}
use Rattle.fts_base.specs.declared.refusal.Refusal.{Refusal}
use Rattle.fts_base.specs.Results.{Gives, ok_unless}
use Rattle.fts_rounds.specs.Rounds.{Gathered}
use Rattle.fts_rounds.specs.declared.stamps.RoundLimits.{RoundLimits}
use Rattle.fts_snapshots.specs.LateMerges.{after_merge}
use Rattle.fts_snapshots.specs.Snapshots.{merge_fault}
use Rattle.fts_index.specs.Writers.{IsOpen, IsRefusedFor, KeepsRounds, WriterValue, is_of, with_merge}

-- the first stamp of a batch of the open round is the one after the last commit's
pub first_behind : (stamp rounds : ℕ) (round : Option RoundLimits) (batch : Gathered) → IsOpen stamp rounds round → is_of round batch ≡ true →
    batch.first ≡ stamp + 1
first_behind stamp rounds None batch h e = cc e
first_behind stamp rounds (Some limits) batch h e =
    sym (eqb-true limits.first batch.first (and_parts (limits.round == batch.round) (limits.first == batch.first) e).1) ∙ h.0

-- what a merge that was made or refused leaves
pub merge_given : {X : Type 0} (ids : List ℕ) (old new : WriterValue) (r : Result X Refusal) → OnOk r (new ≡ with_merge ids old) →
    IsRefusedFor (merge_fault ids old.front.snapshot) r →
    Gives (λ done. new.front.snapshot) r (ok_unless (merge_fault ids old.front.snapshot) (after_merge ids old.front.snapshot))
merge_given ids old new (Ok done) made fine =
    ap (λ fault. ok_unless fault (after_merge ids old.front.snapshot)) fine ∙ ap (λ (w : WriterValue). Ok w.front.snapshot) (sym made)
merge_given ids old new (Err e) made (inl memory) = inl memory
merge_given ids old new (Err e) made (inr fault) = inr (ap (λ f. ok_unless f (after_merge ids old.front.snapshot)) fault)

-- a merge, made or refused, leaves stamp, readers and rounds
pub merge_keeps : {X : Type 0} (ids : List ℕ) (old new : WriterValue) (r : Result X Refusal) → OnOk r (new ≡ with_merge ids old) → OnErr r (new ≡ old) →
    KeepsRounds old new
merge_keeps ids old new (Ok done) made same = subst (KeepsRounds old) (sym made) (record { stamp = refl; of = refl; rounds = refl; round = refl })
merge_keeps ids old new (Err e) made same = subst (KeepsRounds old) (sym same) (record { stamp = refl; of = refl; rounds = refl; round = refl })
