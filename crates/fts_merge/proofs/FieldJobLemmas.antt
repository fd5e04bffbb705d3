-- The jobs of fields, and their results.
use Rattle.std.proofs.Common.{◌≡◌, ℕ, List, Option, Some, None, Result, Ok, length, map, refl, sym, ap, subst}
use Rattle.std.proofs.Common.{◌∙◌}
use Rattle.std.specs.Prelude.{slice_get, MatchOption, IsSomeAnd, option_map}
use Rattle.std.specs.List.{AllZip}
use Rattle.std.specs.declared.alloc.AllocError.{AllocError}
use Rattle.std.proofs.lemmas.List.{length-map}
use Rattle.std.proofs.lemmas.Option.{slice_get-map}
use Rattle.std.proofs.lemmas.Slice.Zip.{AllZip-long, AllZip-right}
use Rattle.fts_segment.specs.FieldIndexes.{AreFieldsOf, IsFieldOf}
use Rattle.fts_segment.specs.Segments.{SegmentValue}
use Rattle.fts_segment.specs.declared.joining.IndexedField.{IndexedField}
use Rattle.fts_merge.specs.declared.field_job.FieldJob.{FieldJob}
use Rattle.fts_merge.specs.FieldJobs.{AreFieldJobs, Indexes}

job_at : (o : Option FieldJob) (P : FieldJob → Type 0) → IsSomeAnd o P → (job : FieldJob) × (o ≡ Some job) × P job
job_at None P h = absurd h
job_at (Some job) P h = (job, refl, h)

-- the fields that the jobs return are those of the segment
pub fields_made : (segment : SegmentValue) (jobs : List FieldJob) (results : List (Result IndexedField AllocError)) (fields : List IndexedField) →
    AreFieldJobs segment (length segment.schema) jobs → AllZip Indexes jobs results → results ≡ map Ok fields → AreFieldsOf segment fields
fields_made segment jobs results fields are zip same = record {
  count = sym (length-map fields Ok) ∙ sym (ap length same) ∙ AllZip-long Indexes jobs results zip ∙ are.many;
  each = λ number field found.
      let here : slice_get results number ≡ Some (Ok field) =
      ap (λ rs. slice_get rs number) same ∙ slice_get-map Ok fields number ∙ ap (option_map Ok) found in
      let Q : Option (Result IndexedField AllocError) → Type 0 = λ o. MatchOption o (Unit {0}) (λ r. IsSomeAnd (slice_get jobs number) (λ job. Indexes job r)) in
      let at = job_at (slice_get jobs number) (λ job. Indexes job (Ok field)) (subst Q here (AllZip-right Indexes jobs results zip number)) in
      let is = are.each number at.0 at.1 in
      let P : SegmentValue → Type 0 = λ s. IsFieldOf s number field in
      let R : ℕ → Type 0 = λ n. IsFieldOf at.0.joining.now n field in
      subst P is.0 (subst R is.1 at.2);
}
