-- The changes that commits and merges make to an index over segments.
use Rattle.std.specs.Prelude.{◌≡◌, ℕ, ◌+◌, ◌*◌, ◌≤◌, List, ◌++◌, length}
use Rattle.fts_model.specs.declared.operation.Op.{Op}
use Rattle.fts_model.specs.declared.operation.Stamped.{Stamped}
use Rattle.fts_model.specs.Operations.{alive, adds}
use Rattle.fts_snapshots.specs.Snapshots.{SnapshotValue, content_of, segments_and_numbers}

-- Operations were committed. Each of them used at most one segment and one number.
pub record Commits (ops : List (Stamped Op)) (old new : SnapshotValue) : Type 0 where
  pub schema : new.schema ≡ old.schema
  pub documents : content_of new ≡ alive old.schema (adds (content_of old) ++ ops)
  pub segments : segments_and_numbers new ≤ segments_and_numbers old + 2 * length ops

-- Segments were merged. The content is unchanged, and at most this many more segments and numbers are used.
pub record Merges (more : ℕ) (old new : SnapshotValue) : Type 0 where
  pub schema : new.schema ≡ old.schema
  pub documents : content_of new ≡ content_of old
  pub segments : segments_and_numbers new ≤ segments_and_numbers old + more
