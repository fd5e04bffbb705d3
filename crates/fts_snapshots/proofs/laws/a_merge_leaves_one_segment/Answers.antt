-- The rest of the proof of `laws::a_merge_leaves_one_segment`.
use Rattle.fts_snapshots.proofs.MergedInfoLemmas.{infos_merged}
use Rattle.fts_snapshots.proofs.laws.a_merge_leaves_one_segment.Goals as goal

pub returns : goal.returns
returns c = infos_merged
