use Rattle.fts_c.proofs.PairLemmas.{pair-transaction}
use Rattle.fts_c.proofs.laws.a_replacement_is_a_transaction.Goals as goal

pub returns : goal.returns
returns c = pair-transaction
