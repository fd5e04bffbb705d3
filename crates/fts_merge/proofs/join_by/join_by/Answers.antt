-- The fields that the jobs return are those of the segment.
use Rattle.std.proofs.Common.{length, subst, sym}
use Rattle.fts_merge.specs.FieldJobs.{AreFieldJobs}
use Rattle.fts_merge.proofs.FieldJobLemmas.{fields_made}
use Rattle.fts_merge.proofs.join_by.join_by.Goals as goal

pub finish-requires : goal.finish-requires
finish-requires g c =
    let segment = c.in_ok-joining.joining in
    let jobs = subst (AreFieldJobs segment (length segment.schema)) (sym c.deref.ensures.value) c.in_ok-jobs.ensures in
    fields_made segment c.deref.result.now c.in_ok-results.results.items c.in_ok-fields.fields.items jobs c.in_ok-results.ensures.ok c.in_ok-fields.ensures
