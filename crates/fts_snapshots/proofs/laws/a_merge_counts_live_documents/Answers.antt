-- The rest of the proof of `laws::a_merge_counts_live_documents`.
use Rattle.fts_snapshots.proofs.LateBeginLemmas.{length-merged}
use Rattle.fts_snapshots.proofs.laws.a_merge_counts_live_documents.Goals as goal

pub returns : goal.returns
returns c = length-merged
