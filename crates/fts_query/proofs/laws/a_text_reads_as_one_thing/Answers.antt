use Rattle.fts_query.proofs.AnswersLemmas.{one_outcome}
use Rattle.fts_query.proofs.laws.a_text_reads_as_one_thing.Goals as goal

pub returns : goal.returns
returns c = one_outcome
