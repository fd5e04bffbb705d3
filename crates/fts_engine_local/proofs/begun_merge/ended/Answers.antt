-- What is left of the proof of `begun_merge::ended`.
use Rattle.std.proofs.Common.{subst}
use Rattle.fts_base.specs.Results.{Gives, ok_unless}
use Rattle.fts_snapshots.specs.LateMerges.{after_end, end_fault}
use Rattle.fts_snapshots.specs.MergedSegments.{merged_of}
use Rattle.fts_snapshots.proofs.CountLemmas.{refused_by}
use Rattle.fts_engine_local.proofs.begun_merge.ended.Goals as goal

pub returns-in-Err-clause-refused : goal.returns-in-Err-clause-refused
returns-in-Err-clause-refused c =
    let m = merged_of c.args.place.now.made in
    let s = c.args.commit.now.snapshot in
    refused_by (end_fault s.next_id m s.entries) (after_end m s) c.in-Err.refusal
    (subst (λ ended. Gives (λ new. new) ended (ok_unless (end_fault s.next_id m s.entries) (after_end m s))) c.in-Err.is c.in-Some.ensures.snapshot)
