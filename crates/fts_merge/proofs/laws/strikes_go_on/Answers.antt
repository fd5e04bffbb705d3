use Rattle.fts_merge.proofs.BitsLemmas.{bits_after-append}
use Rattle.fts_merge.proofs.laws.strikes_go_on.Goals as goal

pub returns : goal.returns
returns c = bits_after-append
