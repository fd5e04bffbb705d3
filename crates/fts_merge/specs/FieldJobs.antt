-- The fields of a merge as jobs.
use Rattle.std.specs.Prelude.{◌≡◌, ℕ, List, Result, Some, IfOk, length, slice_get}
use Rattle.std.specs.declared.alloc.AllocError.{AllocError}
use Rattle.fts_segment.specs.FieldIndexes.{IsFieldOf}
use Rattle.fts_segment.specs.Segments.{SegmentValue}
use Rattle.fts_segment.specs.declared.joining.IndexedField.{IndexedField}
use Rattle.fts_merge.specs.declared.field_job.FieldJob.{FieldJob}

-- a job returns the index of its field, or memory ran out
abbrev pub Indexes : FieldJob → Result IndexedField AllocError → Type 0
Indexes job result = IfOk result (IsFieldOf job.joining.now job.number)

-- there is one job for each of the first fields of a segment, in their order
pub record AreFieldJobs (segment : SegmentValue) (count : ℕ) (jobs : List FieldJob) : Type 0 where
  pub many : length jobs ≡ count
  pub each : (number : ℕ) (job : FieldJob) → slice_get jobs number ≡ Some job
      → (job.joining.now ≡ segment) × (job.number ≡ number)
