use Rattle.fts_engine.specs.Indexes.{indexes}
use Rattle.fts_engine.specs.Histories.{histories}
use Rattle.fts_script.proofs.CarrierLemmas.{output_same}
use Rattle.fts_script.proofs.HistoryLemmas.{index_of, histories-indexes}
use Rattle.fts_script.proofs.session.laws.output_is_that_of_commands.Goals as goal

pub returns : goal.returns
returns c = output_same histories indexes index_of histories-indexes
