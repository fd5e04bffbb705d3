use Rattle.fts_segment.proofs.SourceLemmas.{length-where_set}
use Rattle.fts_merge.proofs.laws.live_bits_count_the_content.Goals as goal

pub returns : goal.returns
returns c = length-where_set
