use Rattle.fts_model.specs.Operations.{survives}
use Rattle.fts_merge.proofs.BitsLemmas.{where_set-bits_where}
use Rattle.fts_merge.proofs.laws.content_after_a_strike.Goals as goal

pub returns : goal.returns
returns c = λ schema ops ds bits. where_set-bits_where (survives schema ops) ds bits
