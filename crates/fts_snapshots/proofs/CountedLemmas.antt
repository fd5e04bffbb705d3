-- What calls that change an index take of stamps, segments and numbers.
use Rattle.std.proofs.Common.{◌≡◌, ◌+◌, ℕ, true, None, List, [], ◌∷◌, ◌++◌, length, refl, sym, subst, arith}
use Rattle.std.proofs.lemmas.List.{length-append}
use Rattle.fts_model.specs.declared.operation.Op.{Op}
use Rattle.fts_model.specs.declared.operation.Stamped.{Stamped}
use Rattle.fts_model.specs.Operations.{op_fits}
use Rattle.fts_snapshots.specs.Changes.{Commits, Merges}
use Rattle.fts_snapshots.specs.Commits.{misfit}
use Rattle.fts_snapshots.specs.Snapshots.{SnapshotValue}
use Rattle.fts_snapshots.proofs.CountLemmas.{misfit-push}
use Rattle.fts_snapshots.specs.CountedSnapshots.{IsCounted}

-- one more uncommitted operation
pub counted_submitted : (stamp : ℕ) (s : SnapshotValue) (ops : List (Stamped Op)) (op : Stamped Op) (calls : ℕ) → IsCounted stamp s ops calls →
    op_fits s.schema op.value ≡ true → IsCounted stamp s (ops ++ op ∷ []) (calls + 1)
counted_submitted stamp s ops op calls i fits =
    let more : length (ops ++ op ∷ []) ≡ length ops + 1 = length-append ops (op ∷ []) in
    record {
      fit = misfit-push s.schema ops op i.fit fits;
      stamps = omega (arith, more, i.stamps);
      segments = omega (arith, more, i.segments);
    }

-- the uncommitted operations are committed, and segments merged after it
pub counted_committed : (stamp after : ℕ) (old mid new : SnapshotValue) (ops : List (Stamped Op)) (calls : ℕ) → IsCounted stamp old ops calls →
    Commits ops old mid → Merges 1 mid new → after ≡ stamp + length ops + 1 →
    IsCounted after new [] (calls + 1)
counted_committed stamp after old mid new ops calls i c m at = record {
  fit = refl;
  stamps = omega (arith, at, i.stamps);
  segments = omega (arith, c.segments, m.segments, i.segments);
}

-- the segments of the last commit are merged
pub counted_merged : (stamp : ℕ) (old new : SnapshotValue) (ops : List (Stamped Op)) (calls : ℕ) → IsCounted stamp old ops calls → Merges 1 old new →
    IsCounted stamp new ops (calls + 1)
counted_merged stamp old new ops calls i m = record {
  fit = subst (λ s. misfit s ops ≡ None) (sym m.schema) i.fit;
  stamps = omega (arith, i.stamps);
  segments = omega (arith, m.segments, i.segments);
}
