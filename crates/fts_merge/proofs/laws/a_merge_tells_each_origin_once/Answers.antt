use Rattle.fts_merge.proofs.OriginsLemmas.{IsMerged-merge_of}
use Rattle.fts_merge.proofs.laws.a_merge_tells_each_origin_once.Goals as goal

pub returns : goal.returns
returns c = IsMerged-merge_of
