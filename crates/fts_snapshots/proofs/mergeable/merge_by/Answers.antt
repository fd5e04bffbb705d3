-- What is left of the proof of `mergeable::merge_by`.
use Rattle.fts_snapshots.specs.Infos.{candidate_ids_by}
use Rattle.fts_snapshots.proofs.ChangeLemmas.{due_unknown}
use Rattle.fts_snapshots.proofs.mergeable.merge_by.Goals as goal

pub returns-in_default-clause-planned : goal.returns-in_default-clause-planned
returns-in_default-clause-planned g c =
    let old = g.S.Mergeable.left c.args.index.now in
    due_unknown (candidate_ids_by c.args.policy.now old.entries) old
