use Rattle.fts_model.proofs.OperationsByStamps.{alive-survives}
use Rattle.fts_scan.proofs.laws.alive_is_what_survives.Goals as goal

pub returns : goal.returns
returns c = alive-survives
