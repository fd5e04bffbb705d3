-- The rest of the proof of `laws::the_end_of_a_merge_leaves_the_content`.
use Rattle.fts_snapshots.proofs.LateContentLemmas.{content-ended}
use Rattle.fts_snapshots.proofs.laws.the_end_of_a_merge_leaves_the_content.Goals as goal

pub returns : goal.returns
returns c = content-ended
