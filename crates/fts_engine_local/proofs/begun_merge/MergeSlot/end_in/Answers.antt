-- What is left of the proof of `end_in` of a place.
use Rattle.std.proofs.Common.{◌≡◌, IfSome, subst, sym, arith}
use Rattle.fts_base.specs.Results.{Gives, ok_unless}
use Rattle.fts_snapshots.specs.LateMerges.{after_end, end_fault}
use Rattle.fts_snapshots.specs.MergedSegments.{merged_of}
use Rattle.fts_engine_local.specs.BegunMerges.{EndsIn}
use Rattle.fts_engine_local.proofs.begun_merge.MergeSlot.end_in.Goals as goal
use Rattle.fts_engine_local.proofs.begun_merge.MergeSlot.end_in.Goals.{in-Some, in-None}

pub returns : goal.returns
returns c =
    let job = c.args.self.now.made in
    let s = c.args.snapshot.now in
    elim c.match-get.branch [
      | in-Some w ↦
          let made : w.in-Some.made.segment ≡ merged_of job = grind (arith, c.get.ensures, c.turn-found.ensures, w.in-Some.is) in
          subst (λ ended. IfSome ended (EndsIn job s)) (sym w.ended-is) (record {
            snapshot = subst (λ m. Gives (λ new. new) w.end_merge.result (ok_unless (end_fault s.next_id m s.entries) (after_end m s))) made
                w.end_merge.ensures.snapshot;
            content = w.end_merge.ensures.content;
          })
      | in-None w ↦ subst (λ ended. IfSome ended (EndsIn job s)) (sym w.ended-is) tt
    ]
