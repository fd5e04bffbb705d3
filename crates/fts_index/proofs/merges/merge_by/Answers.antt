-- The rest of the proof of `merges::merge_by`.
use Rattle.fts_snapshots.specs.Infos.{candidate_ids_by}
use Rattle.fts_snapshots.proofs.ChangeLemmas.{due_unknown}
use Rattle.fts_index.proofs.merges.merge_by.Goals as goal

pub returns-in_default-clause-planned : goal.returns-in_default-clause-planned
returns-in_default-clause-planned g c =
    let old = c.args.writer.now.front.snapshot in
    due_unknown (candidate_ids_by c.args.policy.now old.entries) old
