-- What stays true in the loop of `begun_merge::first_job`.
use Rattle.std.proofs.Common.{◌≡◌, drop, map}
use Rattle.fts_engine_local.specs.BegunMerges.{first_job}
use Rattle.fts_engine_local.proofs.begun_merge.first_job.Given as goal

abbrev pub invariant-loop-ids : goal.invariant-loop-ids
invariant-loop-ids l =
    first_job (map (λ ids. ids.items) (drop l.ids-index l.candidates)) l.snapshot.entries
    ≡ first_job (map (λ ids. ids.items) l.candidates) l.snapshot.entries
