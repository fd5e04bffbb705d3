use Rattle.fts_model.specs.Operations.{survives}
use Rattle.fts_merge.proofs.BitsLemmas.{length-bits_where}
use Rattle.fts_merge.proofs.laws.strikes_keep_the_documents.Goals as goal

pub returns : goal.returns
returns c = λ schema ops ds bits. length-bits_where (survives schema ops) ds bits
