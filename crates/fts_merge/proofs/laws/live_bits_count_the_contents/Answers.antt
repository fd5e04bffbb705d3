use Rattle.fts_merge.proofs.OriginsLemmas.{length-contents_of}
use Rattle.fts_merge.proofs.laws.live_bits_count_the_contents.Goals as goal

pub returns : goal.returns
returns c = length-contents_of
