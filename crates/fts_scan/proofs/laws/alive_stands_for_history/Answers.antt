use Rattle.fts_model.proofs.OperationsAlive.{alive-history}
use Rattle.fts_scan.proofs.laws.alive_stands_for_history.Goals as goal

pub returns : goal.returns
returns c = alive-history
