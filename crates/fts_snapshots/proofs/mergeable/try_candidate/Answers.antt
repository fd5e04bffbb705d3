-- The rest of the proof of `mergeable::try_candidate`.
use Rattle.std.proofs.Common.{inl, inr, refl, ap}
use Rattle.fts_snapshots.proofs.mergeable.try_candidate.Goals as goal

pub returns-in-Ok-clause-merged : goal.returns-in-Ok-clause-merged
returns-in-Ok-clause-merged g c = inl (refl, c.in-Ok.ensures.merged)

pub returns-in-Err-clause-merged : goal.returns-in-Err-clause-merged
returns-in-Err-clause-merged g c = inr (0, refl, (refl, ap g.S.Mergeable.left c.in-Err.ensures.same))
